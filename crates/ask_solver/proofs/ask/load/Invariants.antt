use Rattle.std.proofs.Common.{◌≡◌}
use Rattle.ask_solver.proofs.ask.load.Given as goal

abbrev pub invariant-loop-lits : goal.invariant-loop-lits
invariant-loop-lits g l = g.S.Sat.count l.solver ≡ l.vars
