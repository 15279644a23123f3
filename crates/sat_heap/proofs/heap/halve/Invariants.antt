use Rattle.std.proofs.Common.{◌≡◌, ◌/◌, ◌++◌, length, map, take, drop}
use Rattle.sat_heap.proofs.heap.halve.Given as goal

abbrev pub invariant-loop-count : goal.invariant-loop-count
invariant-loop-count l =
    record {
      width : length l.count-items ≡ length l.initial.count-items;
      done : l.count-items
          ≡ map (λ a. a / 2) (take l.count-index l.initial.count-items) ++ drop l.count-index l.initial.count-items;
    }
