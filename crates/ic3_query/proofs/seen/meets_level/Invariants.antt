use Rattle.std.proofs.Common.{◌≡◌, ◌<◌, ◌≤◌, ℕ, Some, slice_get}
use Rattle.ja_base.specs.Literals.{value, SatisfiedBy}
use Rattle.ic3_frames.specs.Levels.{Entry}
use Rattle.ic3_query.proofs.seen.meets_level.Given as goal

abbrev pub invariant-loop-at : goal.invariant-loop-at
invariant-loop-at l = (k : ℕ) (e : Entry) → k < l.at → slice_get l.frames.kept k ≡ Some e → l.level ≤ e.level
    → SatisfiedBy (value l.vals) e.clause
