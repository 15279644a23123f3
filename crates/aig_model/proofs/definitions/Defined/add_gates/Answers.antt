use Rattle.aig_model.specs.declared.netlist.AndGate.{AndGate}
use Rattle.aig_model.specs.Netlist.{gate_var}
use Rattle.aig_model.proofs.Marking.{within_at, adds_more, adds_all}
use Rattle.aig_model.proofs.definitions.Defined.add_gates.Goals as goal

pub add-requires : goal.add-requires
add-requires c =
    let within = within_at (λ (g : AndGate). g.lhs) c.args.gates.now c.loop-gate.gate-index c.gate-item.result _ c.requires
    c.loop-gate-test.true c.gate-item.is in
    rw (c.var.ensures, c.loop-gate.invariant.width) within

pub loop-gate-preserved : goal.loop-gate-preserved
loop-gate-preserved c =
    adds_more gate_var c.args.gates.now c.loop-gate.gate-index c.gate-item.result c.var.result c.args.self.now c.loop-gate.self
    c.add.new.self c.loop-gate-test.true
    c.gate-item.is c.var.ensures c.loop-gate.invariant c.add.ensures

pub returns : goal.returns
returns c = adds_all gate_var c.args.gates.now c.loop-gate.gate-index c.args.self.now c.loop-gate.self c.loop-gate-test.false
    c.loop-gate.invariant
