use Rattle.desk.specs.Seats.{IsLater}
use Rattle.desk.proofs.tests.are_replies.Given as goal

abbrev pub invariant-loop-asked : goal.invariant-loop-asked
invariant-loop-asked g l = IsLater l.fn.seat l.seat
