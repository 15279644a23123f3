use Rattle.std.proofs.Common.{ℕ, List, [], ◌∷◌, ◌+◌, ◌<◌, ◌++◌, sym, ap, subst, ◌∙◌}
use Rattle.std.proofs.lemmas.Option.{get_or_from_slice_get}
use Rattle.ja_base.specs.Literals.{variable}
use Rattle.ic3_query.specs.Under.{switches}
use Rattle.ic3_query.proofs.UnderLemmas.{bad_literals_below}
use Rattle.ic3_query.proofs.under.bad_literals.Goals as goal

pub returns-clause-below : goal.returns-clause-below
returns-clause-below c =
    let bad = sym (get_or_from_slice_get c.args.coded.now.design.bads c.args.prop c.bad.result 0 c.bad.ensures.exact) in
    let P : ℕ → Type 0 = λ l. variable l < c.args.coded.now.design.vars + 1 in
    let lits = c.in_ok-push.ensures.ok ∙ ap (λ (l : List ℕ). l ++ c.bad.result ∷ []) c.in_ok-lits.ensures
    ∙ ap (λ (l : ℕ). switches c.args.coded.now.design c.args.level c.args.top ++ l ∷ []) bad in
    bad_literals_below c.args.coded.now c.args.level c.args.top c.args.prop c.push.new.self (subst P bad c.bad.ensures.below) lits
