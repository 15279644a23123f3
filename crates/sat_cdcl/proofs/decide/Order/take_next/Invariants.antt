use Rattle.std.proofs.Common.{◌≡◌, length}
use Rattle.sat_cdcl.proofs.decide.Order.take_next.Given as goal

abbrev pub invariant-loop-number : goal.invariant-loop-number
invariant-loop-number l =
    (length l.self-inside.heap.activity ≡ length l.self-inside.negs.items)
    × (length l.self-inside.negs.items ≡ length l.initial.self-inside.negs.items)
