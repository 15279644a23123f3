use Rattle.std.proofs.Common.{◌≡◌}
use Rattle.sat_plain.proofs.tests.pays_for_a_conflict_before_a_row.Given as goal

abbrev pub invariant-loop-limit : goal.invariant-loop-limit
invariant-loop-limit g l = l.solver.vars ≡ 3
