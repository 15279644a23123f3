-- Counts of faults, each kept in a u64 that stays at its last value.
use Rattle.std.specs.Prelude.{ℕ, ◌≤◌}
use Rattle.ja_base.specs.Meter.{next_count}

-- the count rose; one that stands at its last value counts as risen
abbrev pub Rose : ℕ → ℕ → Type 0
Rose before now = next_count before ≤ now
