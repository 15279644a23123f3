use Rattle.ic3_engine.specs.Turns.{state}
use Rattle.ic3_engine.proofs.CoverLemmas.{top_cube_is_free}
use Rattle.ic3_engine.proofs.covering.take_first.Goals as goal

pub block-requires-clause-free : goal.block-requires-clause-free
block-requires-clause-free g c =
    top_cube_is_free c.args.coded.now c.args.aim.now c.args.z.now.frames c.args.z.now.room.vals c.in-Waits.first c.task-task.ensures.sound
    (rw c.in-Waits.is at c.requires.first) c.requires.level

pub returns-in_ok-found-in-Waits-clause-round : goal.returns-in_ok-found-in-Waits-clause-round
returns-in_ok-found-in-Waits-clause-round g c =
    c.round_of.ensures c.args.coded.now c.args.aim.now
    (state c.args.z.now.known c.args.z.now.frames c.args.z.now.queue (g.S.Sat.count c.args.z.now.solver) (g.S.Sat.added c.args.z.now.solver))
    (state c.block.new.z.known c.block.new.z.frames c.block.new.z.queue (g.S.Sat.count c.block.new.z.solver)
    (g.S.Sat.added c.block.new.z.solver))
    c.in_ok-found-in-Waits.ensures.blocked
