use Rattle.std.proofs.Common.{◌≡◌, length}
use Rattle.sat_cdcl.proofs.decide.Order.ground.Given as goal

abbrev pub invariant-loop-at : goal.invariant-loop-at
invariant-loop-at l =
    (length l.self-inside.heap.activity ≡ length l.self-inside.negs.items)
    × (length l.self-inside.negs.items ≡ length l.initial.self-inside.negs.items)
