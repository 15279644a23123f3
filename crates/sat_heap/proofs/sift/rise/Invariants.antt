use Rattle.std.proofs.Common.{◌≡◌, ◌<◌, length}
use Rattle.sat_heap.specs.Orders.{IsInverse, IsRising, inside_of, key}
use Rattle.sat_heap.proofs.sift.rise.Given as goal

abbrev pub invariant-loop-upper : goal.invariant-loop-upper
invariant-loop-upper l =
    record {
      inverse : IsInverse (length l.activity) l.order.vars.items l.order.places.items;
      within : l.place < l.len;
      rising : IsRising l.len (key l.activity l.order.vars.items) l.place;
      inside : inside_of l.len l.order.places.items ≡ inside_of l.len l.initial.order.places.items;
    }

abbrev pub decreases-loop-upper : goal.decreases-loop-upper
decreases-loop-upper l = l.place
