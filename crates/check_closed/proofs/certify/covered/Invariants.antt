use Rattle.std.proofs.Common.{◌≡◌, ◌+◌}
use Rattle.check_closed.proofs.certify.covered.Given as goal

abbrev pub invariant-loop-prop : goal.invariant-loop-prop
invariant-loop-prop l = l.solver.vars ≡ l.fn.coded.design.vars + 1
