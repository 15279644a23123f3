use Rattle.std.proofs.Common.{◌≡◌, ◌-◌, ◌≤◌, length}
use Rattle.sat_heap.specs.Orders.{IsInverse, IsSinking, inside_of, key}
use Rattle.sat_heap.proofs.sift.sink.Given as goal

abbrev pub invariant-loop-lower : goal.invariant-loop-lower
invariant-loop-lower l =
    record {
      inverse : IsInverse (length l.activity) l.order.vars.items l.order.places.items;
      within : l.place ≤ l.len;
      sinking : IsSinking l.len (key l.activity l.order.vars.items) l.place;
      inside : inside_of l.len l.order.places.items ≡ inside_of l.len l.initial.order.places.items;
    }

abbrev pub decreases-loop-lower : goal.decreases-loop-lower
decreases-loop-lower l = l.len - l.place
