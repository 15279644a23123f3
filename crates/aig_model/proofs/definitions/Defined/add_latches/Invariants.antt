use Rattle.std.proofs.Common.{map, take}
use Rattle.ja_base.specs.Literals.{variable}
use Rattle.aig_model.specs.declared.netlist.Latch.{Latch}
use Rattle.aig_model.specs.Definitions.{Adds}
use Rattle.aig_model.proofs.definitions.Defined.add_latches.Given as goal

abbrev pub invariant-loop-latch : goal.invariant-loop-latch
invariant-loop-latch l = Adds l.fn.self l.self (map (λ (k : Latch). variable k.lit) (take l.latch-index l.latches))
