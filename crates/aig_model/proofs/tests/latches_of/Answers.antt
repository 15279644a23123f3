use Rattle.std.proofs.Common.{map}
use Rattle.std.proofs.lemmas.List.{map_push}
use Rattle.aig_model.specs.declared.netlist.Latch.{Latch}
use Rattle.aig_model.specs.Definitions.{nexts}
use Rattle.aig_model.proofs.Ranges.{AreNew-push, AreUsable-push}
use Rattle.aig_model.proofs.tests.latches_of.Goals as goal

pub loop-lit-preserved : goal.loop-lit-preserved
loop-lit-preserved g c =
    rw (c.in_ok-push.ensures.ok) (record {
      lits = rw map_push (AreNew-push c.args.vars (map (λ (k : Latch). k.lit) c.loop-lit.latches) c.new_lit.result c.loop-lit.invariant.lits c.new_lit.ensures);
      next_lits = rw map_push (AreUsable-push c.args.vars (nexts c.loop-lit.latches) c.usable_lit.result c.loop-lit.invariant.next_lits c.usable_lit.ensures);
    })
