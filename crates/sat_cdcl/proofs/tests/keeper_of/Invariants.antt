use Rattle.std.proofs.Common.{◌≡◌}
use Rattle.sat_cdcl.proofs.tests.keeper_of.Given as goal

abbrev pub invariant-loop-mask : goal.invariant-loop-mask
invariant-loop-mask l = l.solver.vars ≡ 12
