use Rattle.std.proofs.Common.{take}
use Rattle.aig_model.specs.Definitions.{Checks}
use Rattle.aig_model.proofs.definitions.Defined.least_in.Given as goal

abbrev pub invariant-loop-lit : goal.invariant-loop-lit
invariant-loop-lit l = Checks l.self.row l.fn.least l.least (take l.lit-index l.lits)
