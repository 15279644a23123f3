use Rattle.ic3_engine.proofs.SettleLemmas.{joined_is_step}
use Rattle.ic3_engine.proofs.settling.settle_good.Goals as goal

pub returns-clause-step : goal.returns-clause-step
returns-clause-step g c =
    joined_is_step c.args.coded.now c.args.known.now c.join.new.known c.args.frames.now c.join.new.frames c.args.clause _ _ _ _
    c.requires.search c.requires.own c.requires.good c.requires.free c.join.ensures.list c.in_ok-join.ensures.own c.in_ok-join.ensures.kept
    c.join.ensures.top c.in_ok-join.ensures.serves
