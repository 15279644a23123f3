use Rattle.std.proofs.Common.{◌+◌, arith}
use Rattle.demo_ring.specs.DemoText.{numbers_line, gate_row}
use Rattle.demo_ring.proofs.RangeLemmas.{grows}
use Rattle.demo_ring.proofs.text.put_neighbour_gates.Goals as goal

pub loop-i-preserved : goal.loop-i-preserved
loop-i-preserved c =
    grows (λ i. numbers_line (gate_row c.args.n i)) 0 c.loop-i.i (c.loop-i.i + 1) c.loop-i.i c.args.text.now c.loop-i.text
    c.put_line.new.text (omega arith) (omega arith) c.loop-i.invariant c.in_ok-put_line.ensures
