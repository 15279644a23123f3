use Rattle.std.proofs.Common.{◌≡◌, ℕ, ◌<◌, length, Some, slice_get}
use Rattle.sat_watch.proofs.front.Front.clear.Given as goal

abbrev pub invariant-loop-at : goal.invariant-loop-at
invariant-loop-at l =
    record {
      width : length l.self.marks.items ≡ length l.initial.self.marks.items;
      gone : (d n : ℕ) → d < l.at → slice_get l.self.marks.items d ≡ Some (Some n) → ⊥;
      head : l.self.head ≡ l.initial.self.head;
      dirty : l.self.dirty ≡ l.initial.self.dirty;
    }
