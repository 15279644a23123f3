use Rattle.std.proofs.Common.{ℕ, List, ◌+◌, ◌++◌, ap, subst, ◌∙◌}
use Rattle.ja_base.specs.Clauses.{IsBelow}
use Rattle.ja_project.specs.CodedClauses.{held_literals}
use Rattle.ic3_query.specs.Under.{switches}
use Rattle.ic3_query.proofs.UnderLemmas.{step_literals_below}
use Rattle.ic3_query.proofs.under.step_literals.Goals as goal

pub returns-clause-below : goal.returns-clause-below
returns-clause-below c =
    let P : List ℕ → Type 0 = IsBelow (c.args.coded.now.design.vars + 1) in
    let lits = c.in_ok-append.ensures.ok ∙ ap (λ (l : List ℕ). l ++ c.in_ok-later.later) (c.in_ok-add_lits.ensures
    ∙ ap (λ (l : List ℕ). l ++ c.held.result.now) c.in_ok-lits.ensures
    ∙ ap (λ (l : List ℕ). switches c.args.coded.now.design c.args.level c.args.top ++ l) c.held.ensures.list)
    ∙ ap (λ (l : List ℕ). switches c.args.coded.now.design c.args.level c.args.top ++ held_literals c.args.coded.now ++ l)
    c.in_ok-later.ensures.value in
    step_literals_below c.args.coded.now c.args.level c.args.top c.args.clause.now c.append.new.self
    (subst P c.held.ensures.list c.held.ensures.below) (subst P c.in_ok-later.ensures.value c.in_ok-later.ensures.below) lits
