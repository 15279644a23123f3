use Rattle.std.proofs.Common.{◌≡◌, ℕ, ◌<◌, true, Some, slice_get}
use Rattle.ja_base.specs.Literals.{value}
use Rattle.random_sim.proofs.judging.meets_constraints.Given as goal

abbrev pub invariant-loop-at : goal.invariant-loop-at
invariant-loop-at l = (k x : ℕ) → k < l.at → slice_get l.design.constraints k ≡ Some x → value l.vals x ≡ true
