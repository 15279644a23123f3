use Rattle.ic3_engine.proofs.TurnLemmas.{lowering_is_turn}
use Rattle.ic3_engine.proofs.turn.at_level.Goals as goal

pub returns-in_ok-turn-in-Before-clause-turn : goal.returns-in_ok-turn-in-Before-clause-turn
returns-in_ok-turn-in-Before-clause-turn g c =
    let is_before = rw c.in-Before.is at c.in_ok-ask.ensures.answer in
    lowering_is_turn c.args.coded.now c.args.aim.now c.args.now c.args.z.now.known c.args.z.now.frames c.args.z.now.queue
    c.lower.new.queue _ _ _ _ c.ask.new.room.vals c.in_ok-turn-in-Before.turn c.task-task.ensures.sound c.requires.search c.ask.ensures.count
    c.ask.ensures.added c.requires.waits is_before c.in_ok-turn-in-Before.ensures.turn
