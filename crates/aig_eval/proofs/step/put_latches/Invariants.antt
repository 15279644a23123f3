use Rattle.aig_eval.specs.Rows.{latch_vars, Puts}
use Rattle.aig_eval.proofs.step.put_latches.Given as goal

abbrev pub invariant-loop-at : goal.invariant-loop-at
invariant-loop-at l = Puts (latch_vars l.d) l.latches l.at l.fn.vals l.vals
