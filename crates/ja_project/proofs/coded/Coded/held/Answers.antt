use Rattle.std.proofs.Common.{List, ℕ, ◌+◌, sym, subst}
use Rattle.ja_base.specs.Clauses.{IsBelow}
use Rattle.ja_project.specs.Meaning.{CodesAssumptions}
use Rattle.ja_project.proofs.CodingLemmas.{seen_as, held_mean, held_below}
use Rattle.ja_project.proofs.coded.Coded.held.Goals as goal

pub returns-clause-meaning : goal.returns-clause-meaning
returns-clause-meaning c =
    let inside = c.self.inside in
    let P : List ℕ → Type 0 = λ held. CodesAssumptions c.args.self.now held in
    subst P (sym c.as_slice.ensures.value)
    (held_mean c.args.self.now inside.clauses inside.held inside.nexts.items
    (seen_as inside.task c.args.self.now inside.clauses inside.held inside.nexts.items c.self.invariant c.self.view_is))

pub returns-clause-below : goal.returns-clause-below
returns-clause-below c =
    let inside = c.self.inside in
    let P : List ℕ → Type 0 = λ held. IsBelow (c.args.self.now.design.vars + 1) held in
    subst P (sym c.as_slice.ensures.value)
    (held_below c.args.self.now inside.clauses inside.held inside.nexts.items
    (seen_as inside.task c.args.self.now inside.clauses inside.held inside.nexts.items c.self.invariant c.self.view_is))
