use Rattle.std.proofs.Common.{◌≡◌, ◌+◌}
use Rattle.check_closed.proofs.proofs.solved_proofs.Given as goal

abbrev pub invariant-loop-clause : goal.invariant-loop-clause
invariant-loop-clause l = l.solver.vars ≡ l.fn.coded.design.vars + 1
