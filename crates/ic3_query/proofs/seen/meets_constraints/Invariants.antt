use Rattle.std.proofs.Common.{◌≡◌, ◌<◌, ℕ, true, slice_index_or}
use Rattle.ja_base.specs.Literals.{value}
use Rattle.ic3_query.proofs.seen.meets_constraints.Given as goal

abbrev pub invariant-loop-at : goal.invariant-loop-at
invariant-loop-at l = (k d : ℕ) → k < l.at → value l.vals (slice_index_or l.design.constraints k d) ≡ true
