use Rattle.std.proofs.Common.{◌≡◌, ◌<◌, ℕ, List, true, slice_index_or}
use Rattle.std.specs.List.{list_any}
use Rattle.ja_base.specs.Literals.{value}
use Rattle.ic3_query.proofs.seen.meets_all.Given as goal

abbrev pub invariant-loop-clause : goal.invariant-loop-clause
invariant-loop-clause l = (k : ℕ) (d : List ℕ) → k < l.clause-index
    → list_any (value l.vals) (slice_index_or l.clauses k d) ≡ true
