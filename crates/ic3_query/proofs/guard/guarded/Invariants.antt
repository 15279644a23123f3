use Rattle.std.proofs.Common.{◌≡◌, take}
use Rattle.ic3_query.proofs.guard.guarded.Given as goal

abbrev pub invariant-loop-lit : goal.invariant-loop-lit
invariant-loop-lit l = l.lits ≡ take l.lit-index l.clause
