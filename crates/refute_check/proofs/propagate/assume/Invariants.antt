use Rattle.std.proofs.Common.{◌≡◌, drop}
use Rattle.refute_check.specs.Lines.{assumed}
use Rattle.refute_check.proofs.propagate.assume.Given as goal

abbrev pub invariant-loop-lit : goal.invariant-loop-lit
invariant-loop-lit l = assumed l.lits l.fn.values ≡ assumed (drop l.lit-index l.lits) l.values
