use Rattle.std.proofs.Common.{◌≡◌, length}
use Rattle.ic3_general.proofs.justifying.mark_gates.Given as goal

abbrev pub invariant-loop-at : goal.invariant-loop-at
invariant-loop-at l = length l.needed ≡ length l.fn.needed
