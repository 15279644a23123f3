use Rattle.ic3_engine.proofs.TurnLemmas.{part_is_free_at_top}
use Rattle.ic3_engine.proofs.turn.take_turn.Goals as goal

pub settle_good-requires-clause-free : goal.settle_good-requires-clause-free
settle_good-requires-clause-free g c =
    let part = rw c.in-Some.is at c.in_ok-part.ensures.part in
    part_is_free_at_top c.args.z.now.frames c.args.now.level c.in-Some.part c.args.now.clause c.requires.waits.high part.within c.requires.free
