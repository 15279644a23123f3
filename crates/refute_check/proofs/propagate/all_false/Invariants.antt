use Rattle.std.proofs.Common.{◌≡◌, drop}
use Rattle.refute_check.specs.Lines.{are_false}
use Rattle.refute_check.proofs.propagate.all_false.Given as goal

abbrev pub invariant-loop-lit : goal.invariant-loop-lit
invariant-loop-lit l = are_false l.values l.lits ≡ are_false l.values (drop l.lit-index l.lits)
