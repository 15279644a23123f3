use Rattle.aig_model.specs.declared.netlist.AndGate.{AndGate}
use Rattle.aig_model.specs.Definitions.{rights}
use Rattle.aig_model.proofs.Marking.{within_at, checks_gate, checks_all}
use Rattle.aig_model.proofs.definitions.Defined.least_in_gates.Goals as goal

pub check-least-requires : goal.check-least-requires
check-least-requires c = within_at (λ (g : AndGate). g.rhs0) c.args.gates.now c.loop-gate.gate-index c.gate-item.result _
    c.requires.rhs0 c.loop-gate-test.true c.gate-item.is

pub check-least-requires-in-loop-gate : goal.check-least-requires-in-loop-gate
check-least-requires-in-loop-gate c =
    within_at (λ (g : AndGate). g.rhs1) c.args.gates.now c.loop-gate.gate-index c.gate-item.result _ c.requires.rhs1
    c.loop-gate-test.true c.gate-item.is

pub loop-gate-preserved : goal.loop-gate-preserved
loop-gate-preserved c =
    checks_gate c.args.gates.now c.loop-gate.gate-index c.gate-item.result c.args.self.now.row c.args.least c.loop-gate.least
    c.check-least.result
    c.check-least-in-loop-gate.result c.loop-gate-test.true c.gate-item.is c.loop-gate.invariant c.check-least.ensures
    c.check-least-in-loop-gate.ensures

pub returns : goal.returns
returns c = checks_all rights c.args.gates.now c.loop-gate.gate-index c.args.self.now.row c.args.least c.loop-gate.least
    c.loop-gate-test.false c.loop-gate.invariant
