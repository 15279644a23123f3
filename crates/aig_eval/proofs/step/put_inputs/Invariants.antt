use Rattle.aig_eval.specs.Rows.{input_vars, Puts}
use Rattle.aig_eval.proofs.step.put_inputs.Given as goal

abbrev pub invariant-loop-at : goal.invariant-loop-at
invariant-loop-at l = Puts (input_vars l.d) l.inputs l.at l.fn.vals l.vals
