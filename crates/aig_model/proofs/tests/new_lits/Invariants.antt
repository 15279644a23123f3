use Rattle.aig_model.specs.Ranges.{AreNew}
use Rattle.aig_model.proofs.tests.new_lits.Given as goal

abbrev pub invariant-loop-number : goal.invariant-loop-number
invariant-loop-number g l = AreNew l.vars l.lits
