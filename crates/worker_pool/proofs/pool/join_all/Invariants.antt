use Rattle.std.proofs.Common.{◌≡◌, ◌+◌, length}
use Rattle.worker_pool.proofs.pool.join_all.Given as goal

abbrev pub invariant-loop-own : goal.invariant-loop-own
invariant-loop-own g l = record {
  number : l.seat.number ≡ 0;
  left : l.seat.joined + length l.seats.items ≡ l.seat.made;
}

abbrev pub decreases-loop-own : goal.decreases-loop-own
decreases-loop-own g l = length l.seats.items
