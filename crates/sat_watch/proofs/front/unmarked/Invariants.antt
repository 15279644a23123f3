use Rattle.std.proofs.Common.{◌≡◌, ℕ, ◌+◌, length, Some, slice_get}
use Rattle.sat_watch.proofs.front.unmarked.Given as goal

abbrev pub invariant-loop : goal.invariant-loop
invariant-loop l =
    (length l.marks.items ≡ l.counter + 1) × ((d n : ℕ) → slice_get l.marks.items d ≡ Some (Some n) → ⊥)
