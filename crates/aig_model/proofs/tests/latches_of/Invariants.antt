use Rattle.std.proofs.Common.{map}
use Rattle.aig_model.specs.declared.netlist.Latch.{Latch}
use Rattle.aig_model.specs.Ranges.{AreNew, AreUsable}
use Rattle.aig_model.specs.Definitions.{nexts}
use Rattle.aig_model.proofs.tests.latches_of.Given as goal

abbrev pub invariant-loop-lit : goal.invariant-loop-lit
invariant-loop-lit g l =
    record {
      lits : AreNew l.vars (map (λ (k : Latch). k.lit) l.latches);
      next_lits : AreUsable l.vars (nexts l.latches);
    }
