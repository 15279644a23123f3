use Rattle.ic3_engine.specs.Turns.{state}
use Rattle.ic3_engine.proofs.CoverLemmas.{risen_is_less}
use Rattle.ic3_engine.proofs.covering.cover.Goals as goal

pub loop-failure-smaller : goal.loop-failure-smaller
loop-failure-smaller g c =
    let round = rw c.in-Blocked.is at c.in_ok-take_round.ensures.round in
    risen_is_less c.args.coded.now c.args.aim.now
    (state c.loop-failure.z.known c.loop-failure.z.frames c.loop-failure.z.queue (g.S.Sat.count c.loop-failure.z.solver)
    (g.S.Sat.added c.loop-failure.z.solver))
    (state c.take_round.new.z.known c.take_round.new.z.frames c.take_round.new.z.queue (g.S.Sat.count c.take_round.new.z.solver)
    (g.S.Sat.added c.take_round.new.z.solver))
    round.0 round.2
