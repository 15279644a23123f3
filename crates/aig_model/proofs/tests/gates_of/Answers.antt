use Rattle.std.proofs.Common.{map}
use Rattle.std.proofs.lemmas.List.{map_push}
use Rattle.aig_model.specs.declared.netlist.AndGate.{AndGate}
use Rattle.aig_model.proofs.Ranges.{AreNew-push, AreUsable-push}
use Rattle.aig_model.proofs.tests.gates_of.Goals as goal

pub loop-lhs-preserved : goal.loop-lhs-preserved
loop-lhs-preserved g c =
    rw (c.in_ok-push.ensures.ok) (record {
      lhs = rw map_push (AreNew-push c.args.vars (map (λ (k : AndGate). k.lhs) c.loop-lhs.gates) c.new_lit.result c.loop-lhs.invariant.lhs c.new_lit.ensures);
      rhs0 = rw map_push (AreUsable-push c.args.vars (map (λ (k : AndGate). k.rhs0) c.loop-lhs.gates) c.usable_lit.result c.loop-lhs.invariant.rhs0 c.usable_lit.ensures);
      rhs1 = rw map_push (AreUsable-push c.args.vars (map (λ (k : AndGate). k.rhs1) c.loop-lhs.gates) c.usable_lit-in-loop-lhs.result c.loop-lhs.invariant.rhs1 c.usable_lit-in-loop-lhs.ensures);
    })
