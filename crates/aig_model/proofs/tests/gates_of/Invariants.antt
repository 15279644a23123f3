use Rattle.std.proofs.Common.{map}
use Rattle.aig_model.specs.declared.netlist.AndGate.{AndGate}
use Rattle.aig_model.specs.Ranges.{AreNew, AreUsable}
use Rattle.aig_model.proofs.tests.gates_of.Given as goal

abbrev pub invariant-loop-lhs : goal.invariant-loop-lhs
invariant-loop-lhs g l =
    record {
      lhs : AreNew l.vars (map (λ (g : AndGate). g.lhs) l.gates);
      rhs0 : AreUsable l.vars (map (λ (g : AndGate). g.rhs0) l.gates);
      rhs1 : AreUsable l.vars (map (λ (g : AndGate). g.rhs1) l.gates);
    }
