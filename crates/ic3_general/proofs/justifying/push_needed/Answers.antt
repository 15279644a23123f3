use Rattle.std.proofs.Common.{[], ◌∷◌, ◌++◌, sym, ap, ◌∙◌, subst}
use Rattle.ic3_general.specs.Dropping.{IsAmongUnmet}
use Rattle.ic3_general.proofs.CubeLemmas.{among_pushed}
use Rattle.ic3_general.proofs.justifying.push_needed.Goals as goal

pub returns : goal.returns
returns c =
    subst (IsAmongUnmet c.args.design.now c.args.vals.now)
    (sym (c.in_ok-push.ensures.ok ∙ ap (λ l. c.args.lits.now ++ l ∷ []) c.unmet_literal.ensures))
    (among_pushed c.args.design.now c.requires.sound c.args.vals.now c.args.lits.now c.args.at c.latch-latch.result
    c.latch-latch.ensures c.requires.lits)
