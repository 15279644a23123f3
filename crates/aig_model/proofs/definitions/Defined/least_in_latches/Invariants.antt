use Rattle.std.proofs.Common.{take}
use Rattle.aig_model.specs.Definitions.{Checks, nexts}
use Rattle.aig_model.proofs.definitions.Defined.least_in_latches.Given as goal

abbrev pub invariant-loop-latch : goal.invariant-loop-latch
invariant-loop-latch l = Checks l.self.row l.fn.least l.least (nexts (take l.latch-index l.latches))
