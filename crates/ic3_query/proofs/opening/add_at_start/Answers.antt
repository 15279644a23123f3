use Rattle.std.proofs.Common.{◌≡◌, ℕ, true, List, [], ◌∷◌, sym, subst}
use Rattle.ja_base.specs.Literals.{bit, value}
use Rattle.ja_base.specs.Clauses.{IsSetOf}
use Rattle.ic3_query.specs.Opening.{Says}
use Rattle.ic3_query.specs.Switches.{switch_var}
use Rattle.ic3_query.proofs.OpenLemmas.{says_literal}
use Rattle.ic3_query.proofs.opening.add_at_start.Goals as goal

pub returns-clause-added : goal.returns-clause-added
returns-clause-added g c =
    let P : List (List ℕ) → Type 0 =
    Says (λ row. bit row (switch_var c.args.coded.now.design 0) ≡ true → value row c.args.lit ≡ true)
    (g.S.Sat.added c.args.solver.now) in
    let Q : ℕ → Type 0 = λ l. IsSetOf (c.args.lit ∷ l ∷ []) c.in_ok-clause.clause in
    subst P (sym c.in_ok-add.ensures.ok) (says_literal c.args.coded.now.design c.args.lit c.in_ok-clause.clause
    (g.S.Sat.added c.args.solver.now) (subst Q c.off.ensures c.in_ok-clause.ensures.set))
