use Rattle.std.proofs.Common.{take}
use Rattle.aig_model.specs.Definitions.{Checks, rights}
use Rattle.aig_model.proofs.definitions.Defined.least_in_gates.Given as goal

abbrev pub invariant-loop-gate : goal.invariant-loop-gate
invariant-loop-gate l = Checks l.self.row l.fn.least l.least (rights (take l.gate-index l.gates))
