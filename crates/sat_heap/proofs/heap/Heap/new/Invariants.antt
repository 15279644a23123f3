use Rattle.std.proofs.Common.{◌≡◌, true, replicate}
use Rattle.sat_heap.proofs.heap.Heap.new.Given as goal

abbrev pub invariant-loop : goal.invariant-loop
invariant-loop l = l.heap ≡ record { activity = replicate l.counter 0; inside = replicate l.counter true }
