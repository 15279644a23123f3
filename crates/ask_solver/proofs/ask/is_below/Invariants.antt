use Rattle.std.proofs.Common.{ℕ, ◌<◌, get_or}
use Rattle.ja_base.specs.Literals.{variable}
use Rattle.ask_solver.proofs.ask.is_below.Given as goal

abbrev pub invariant-loop-lit : goal.invariant-loop-lit
invariant-loop-lit l = (k d : ℕ) → k < l.lit-index → variable (get_or l.lits k d) < l.vars
