use Rattle.std.proofs.Common.{◌≡◌}
use Rattle.check_closed.proofs.certify.add_list.Given as goal

abbrev pub invariant-loop-at : goal.invariant-loop-at
invariant-loop-at l = l.solver.vars ≡ l.fn.solver.vars
