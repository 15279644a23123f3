use Rattle.std.proofs.Common.{◌≡◌, take}
use Rattle.ic3_general.specs.Lifting.{without}
use Rattle.ic3_general.proofs.cutting.without.Given as goal

abbrev pub invariant-loop-other : goal.invariant-loop-other
invariant-loop-other l = l.lits ≡ without l.lit (take l.other-index l.clause)
