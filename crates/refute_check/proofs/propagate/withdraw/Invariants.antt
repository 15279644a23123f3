use Rattle.std.proofs.Common.{◌≡◌, drop}
use Rattle.refute_check.specs.Lines.{withdrawn}
use Rattle.refute_check.proofs.propagate.withdraw.Given as goal

abbrev pub invariant-loop-lit : goal.invariant-loop-lit
invariant-loop-lit l = withdrawn l.lits l.fn.values ≡ withdrawn (drop l.lit-index l.lits) l.values
