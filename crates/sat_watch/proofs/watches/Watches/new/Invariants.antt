use Rattle.std.proofs.Common.{◌≡◌, ◌*◌, length}
use Rattle.sat_watch.proofs.watches.Watches.new.Given as goal

abbrev pub invariant-loop : goal.invariant-loop
invariant-loop l = length l.watches.lists ≡ 2 * l.counter
