use Rattle.std.proofs.Common.{◌≡◌, ◌<◌, ℕ, Some, slice_get}
use Rattle.aig_model.specs.declared.netlist.Latch.{Latch}
use Rattle.ic3_query.specs.Opening.{HasReset}
use Rattle.ic3_query.proofs.seen.is_initial.Given as goal

abbrev pub invariant-loop-at : goal.invariant-loop-at
invariant-loop-at l = (k : ℕ) (latch : Latch) → k < l.at → slice_get l.design.latches k ≡ Some latch → HasReset latch l.vals
