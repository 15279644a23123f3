use Rattle.std.proofs.Common.{◌≡◌, ℕ, ◌<◌, length, Some, slice_get}
use Rattle.sat_watch.proofs.front.Front.unmark.Given as goal

abbrev pub invariant-loop-at : goal.invariant-loop-at
invariant-loop-at l =
    record {
      width : length l.self.marks.items ≡ length l.initial.self.marks.items;
      fewer : (d n : ℕ) → slice_get l.self.marks.items d ≡ Some (Some n)
          → slice_get l.initial.self.marks.items d ≡ Some (Some n);
      gone : (d n : ℕ) → l.to < d → d < l.at → slice_get l.self.marks.items d ≡ Some (Some n) → ⊥;
      log : l.self.log.items ≡ l.initial.self.log.items;
      head : l.self.head ≡ l.initial.self.head;
      seen : l.self.seen ≡ l.initial.self.seen;
      dirty : l.self.dirty ≡ l.initial.self.dirty;
    }
