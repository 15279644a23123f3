use Rattle.std.proofs.Common.{◌≡◌, Some, length, map, take}
use Rattle.sign_task.proofs.marks.marks_of.Given as goal

abbrev pub invariant-loop-slot : goal.invariant-loop-slot
invariant-loop-slot l = (map Some l.marks.items ≡ take l.slot-index l.slots) × (length l.marks.items ≡ l.slot-index)
