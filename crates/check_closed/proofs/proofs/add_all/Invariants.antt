use Rattle.std.proofs.Common.{◌≡◌}
use Rattle.check_closed.proofs.proofs.add_all.Given as goal

abbrev pub invariant-loop-clause : goal.invariant-loop-clause
invariant-loop-clause l = l.solver.vars ≡ l.fn.solver.vars
