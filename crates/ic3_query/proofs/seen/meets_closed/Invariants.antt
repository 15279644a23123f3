use Rattle.std.proofs.Common.{◌≡◌, ◌<◌, ℕ, List, true, slice_index_or}
use Rattle.std.specs.List.{list_any}
use Rattle.ja_base.specs.Literals.{value}
use Rattle.ic3_query.proofs.seen.meets_closed.Given as goal

abbrev pub invariant-loop-at : goal.invariant-loop-at
invariant-loop-at l = (k : ℕ) (d : List ℕ) → k < l.at → list_any (value l.vals) (slice_index_or l.closed.clauses k d) ≡ true
