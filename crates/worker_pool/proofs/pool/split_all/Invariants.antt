use Rattle.std.proofs.Common.{◌≡◌, length}
use Rattle.worker_pool.proofs.pool.split_all.Given as goal

abbrev pub invariant-loop : goal.invariant-loop
invariant-loop g l = record {
  number : l.seat.number ≡ 0;
  made : l.seat.made ≡ l.counter;
  joined : l.seat.joined ≡ 0;
  seats : length l.seats.items ≡ l.counter;
}
