use Rattle.std.proofs.Common.{ℕ, ◌<◌, List, get_or, subst}
use Rattle.std.proofs.lemmas.List.Elements.{All-contains, Contains-get_or}
use Rattle.ja_base.specs.Literals.{variable}
use Rattle.ja_base.specs.Clauses.{IsBelow, IsSetOf}
use Rattle.sat_cdcl.proofs.tests.masks.clause_of.Goals as goal

set_below : (n : ℕ) (lits clause : List ℕ) → IsSetOf lits clause → IsBelow n lits → IsBelow n clause
set_below n lits clause set_of below = λ k d less.
    All-contains (λ l. variable l < n) lits (get_or clause k d) below
    ((set_of.members (get_or clause k d)).0 (Contains-get_or clause k d less))

pub returns : goal.returns
returns c =
    let P : List ℕ → Type 0 = λ v. IsSetOf v c.in_ok-clause.clause in
    let set = subst P c.as_slice.ensures.value c.in_ok-clause.ensures.set in
    set_below 12 c.in_ok-lits.lits c.in_ok-clause.clause set c.in_ok-lits.ensures
