use Rattle.std.proofs.Common.{◌≡◌}
use Rattle.ask_solver.proofs.ask.answers.Given as goal

abbrev pub invariant-loop-under : goal.invariant-loop-under
invariant-loop-under l = l.solver.vars ≡ l.vars
