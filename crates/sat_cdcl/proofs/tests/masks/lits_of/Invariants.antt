use Rattle.ja_base.specs.Clauses.{IsBelow}
use Rattle.sat_cdcl.proofs.tests.masks.lits_of.Given as goal

abbrev pub invariant-loop-lit : goal.invariant-loop-lit
invariant-loop-lit l = IsBelow 12 l.lits
