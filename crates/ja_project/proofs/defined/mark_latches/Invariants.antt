use Rattle.std.proofs.Common.{map, take}
use Rattle.ja_base.specs.Literals.{variable}
use Rattle.aig_model.specs.declared.netlist.Latch.{Latch}
use Rattle.ja_project.specs.Coding.{Marks}
use Rattle.ja_project.proofs.defined.mark_latches.Given as goal

abbrev pub invariant-loop-at : goal.invariant-loop-at
invariant-loop-at l = Marks (map (λ (k : Latch). variable k.lit) (take l.at l.design.latches)) l.fn.defined l.defined
