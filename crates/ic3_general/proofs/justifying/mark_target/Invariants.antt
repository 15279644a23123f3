use Rattle.std.proofs.Common.{◌≡◌, length}
use Rattle.ic3_general.proofs.justifying.mark_target.Given as goal

abbrev pub invariant-loop-lit : goal.invariant-loop-lit
invariant-loop-lit l = length l.needed ≡ length l.fn.needed
