use Rattle.std.proofs.Common.{◌≡◌}
use Rattle.sat_cdcl.proofs.tests.agrees.Given as goal

abbrev pub invariant-loop-under : goal.invariant-loop-under
invariant-loop-under l = l.solver.vars ≡ 12
