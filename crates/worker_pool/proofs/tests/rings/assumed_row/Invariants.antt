use Rattle.std.proofs.Common.{◌≡◌, length, take}
use Rattle.worker_pool.proofs.tests.rings.assumed_row.Given as goal

abbrev pub invariant-loop-prop : goal.invariant-loop-prop
invariant-loop-prop l = (l.bits.items ≡ take l.prop l.expect) × (length l.bits.items ≡ l.prop)
