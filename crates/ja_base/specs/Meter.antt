-- Counts that are kept in a u64: of a meter, of faults, of polls.
use Rattle.std.specs.Prelude.{ℕ, ◌+◌, min}

-- the next number, or the greatest of a u64
abbrev pub next_count : ℕ → ℕ
next_count n = min (n + 1) 18446744073709551615
