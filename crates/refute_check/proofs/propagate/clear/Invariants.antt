use Rattle.std.proofs.Common.{◌≡◌, drop}
use Rattle.refute_check.specs.Lines.{cleared}
use Rattle.refute_check.proofs.propagate.clear.Given as goal

abbrev pub invariant-loop-lit : goal.invariant-loop-lit
invariant-loop-lit l = cleared l.lits l.fn.values ≡ cleared (drop l.lit-index l.lits) l.values
