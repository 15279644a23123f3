use Rattle.std.proofs.Common.{◌≡◌, ◌+◌, ◌-◌, ◌≤◌, length, IsTrue}
use Rattle.ja_outside.specs.Shelf.{IsTaken}
use Rattle.ja_outside.proofs.whole.read_whole.Given as goal

-- the bytes so far are what was taken of the file, and not more than the limit
abbrev pub invariant-loop-bytes : goal.invariant-loop-bytes
invariant-loop-bytes g l =
    let shelf = g.F.Shelf in
    record {
      kept : shelf.holds l.shelf ≡ shelf.holds l.fn.shelf;
      selected : IsTrue (shelf.is_selected l.shelf);
      taken : IsTaken (shelf.holds l.fn.shelf) l.name l.bytes.items (shelf.left l.shelf);
      within : length l.bytes.items ≤ l.limit;
      quiet : shelf.faults l.shelf ≡ shelf.faults l.fn.shelf;
    }

abbrev pub decreases-loop-bytes : goal.decreases-loop-bytes
decreases-loop-bytes g l = l.limit + 1 - length l.bytes.items
