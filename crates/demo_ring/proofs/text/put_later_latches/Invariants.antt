use Rattle.std.proofs.Common.{◌≡◌, ◌++◌, ◌-◌, ◌≤◌}
use Rattle.demo_ring.specs.DemoText.{later_latches_text}
use Rattle.demo_ring.proofs.text.put_later_latches.Given as goal

abbrev pub invariant-loop-i : goal.invariant-loop-i
invariant-loop-i l = (l.text ≡ l.fn.text ++ later_latches_text (l.i - 1)) × (l.i - 1 ≤ l.fn.n - 1)
