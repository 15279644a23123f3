use Rattle.std.proofs.Common.{◌≡◌, length}
use Rattle.ic3_query.proofs.tests.blind.blank.Given as goal

abbrev pub invariant-loop-at : goal.invariant-loop-at
invariant-loop-at l = length l.row ≡ length l.fn.row
