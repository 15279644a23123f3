use Rattle.std.proofs.Common.{◌≡◌}
use Rattle.sat_cdcl.proofs.tests.agrees_on_questions.Given as goal

abbrev pub invariant-loop-under : goal.invariant-loop-under
invariant-loop-under l = l.solver.vars ≡ 12

abbrev pub invariant-loop-with_extra : goal.invariant-loop-with_extra
invariant-loop-with_extra l = l.solver.vars ≡ 12
