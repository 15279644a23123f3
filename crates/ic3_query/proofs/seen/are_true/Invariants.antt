use Rattle.std.proofs.Common.{◌≡◌, ◌<◌, ℕ, true, slice_index_or}
use Rattle.ja_base.specs.Literals.{value}
use Rattle.ic3_query.proofs.seen.are_true.Given as goal

abbrev pub invariant-loop-lit : goal.invariant-loop-lit
invariant-loop-lit l = (k d : ℕ) → k < l.lit-index → value l.vals (slice_index_or l.lits k d) ≡ true
