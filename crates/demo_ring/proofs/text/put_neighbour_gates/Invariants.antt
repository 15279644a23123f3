use Rattle.std.proofs.Common.{◌≡◌, ◌++◌}
use Rattle.demo_ring.specs.DemoText.{neighbour_gates_text}
use Rattle.demo_ring.proofs.text.put_neighbour_gates.Given as goal

abbrev pub invariant-loop-i : goal.invariant-loop-i
invariant-loop-i l = l.text ≡ l.fn.text ++ neighbour_gates_text l.fn.n l.i
