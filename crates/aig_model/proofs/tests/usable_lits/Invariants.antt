use Rattle.aig_model.specs.Ranges.{AreUsable}
use Rattle.aig_model.proofs.tests.usable_lits.Given as goal

abbrev pub invariant-loop-number : goal.invariant-loop-number
invariant-loop-number g l = AreUsable l.vars l.lits
