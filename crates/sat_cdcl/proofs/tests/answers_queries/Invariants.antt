use Rattle.std.proofs.Common.{◌≡◌}
use Rattle.sat_cdcl.proofs.tests.answers_queries.Given as goal

abbrev pub invariant-loop-under : goal.invariant-loop-under
invariant-loop-under g l = l.solver.vars ≡ 12
