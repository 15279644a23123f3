use Rattle.std.proofs.Common.{sym, ◌∙◌}
use Rattle.aig_model.specs.Netlist.{circuit}
use Rattle.aig_eval.proofs.OrderLemmas.{sound_is_acyclic}
use Rattle.ic3_general.proofs.CubeLemmas.{cube_is_own}
use Rattle.ic3_general.proofs.RangeLemmas.{row_makes_sure}
use Rattle.ic3_general.proofs.SureLemmas.{makes_sure}
use Rattle.ic3_general.proofs.dropping.first_clause.Goals as goal

pub sure_into-requires-clause-own : goal.sure_into-requires-clause-own
sure_into-requires-clause-own c =
    cube_is_own c.args.design.now c.in_ok-hint.ensures.sound c.args.vals.now c.in_ok-hint.hint c.in_ok-hint.ensures.among

pub returns-then-are_sure-clause-makes : goal.returns-then-are_sure-clause-makes
returns-then-are_sure-clause-makes c =
    makes_sure (circuit c.args.design.now) c.args.vals.now c.in_ok-hint.hint c.args.target.now c.sure_into.new.sure
    (sound_is_acyclic c.args.design.now c.in_ok-hint.ensures.sound) c.requires.step c.sure_into.ensures
    (sym c.are_sure.ensures ∙ c.if-are_sure.true)

pub sure_into-requires-2-clause-own : goal.sure_into-requires-2-clause-own
sure_into-requires-2-clause-own c =
    cube_is_own c.args.design.now c.in_ok-hint.ensures.sound c.args.vals.now c.in_ok-whole.whole
    (λ l h. (c.in_ok-whole.ensures.members l).0 h)

pub returns-clause-among : goal.returns-clause-among
returns-clause-among c l h = (c.in_ok-whole.ensures.members l).0 h

pub returns-clause-makes : goal.returns-clause-makes
returns-clause-makes c =
    let n = c.args.design.now in
    let sound = c.in_ok-hint.ensures.sound in
    makes_sure (circuit n) c.args.vals.now c.in_ok-whole.whole c.args.target.now c.sure_into-2.new.sure
    (sound_is_acyclic n sound) c.requires.step c.sure_into-2.ensures
    (row_makes_sure n sound c.args.vals.now c.in_ok-whole.whole c.sure_into-2.new.sure c.args.target.now c.requires.step
    c.in_ok-whole.ensures c.sure_into-2.ensures c.requires.below c.requires.met)
