use Rattle.std.proofs.Common.{◌≡◌}
use Rattle.check_closed.proofs.proofs.add_units.Given as goal

abbrev pub invariant-loop-lit : goal.invariant-loop-lit
invariant-loop-lit l = l.solver.vars ≡ l.fn.solver.vars
