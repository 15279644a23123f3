use Rattle.ja_base.specs.Valuation.{input_row}
use Rattle.aig_model.specs.Netlist.{circuit}
use Rattle.aig_eval.specs.Rows.{input_vars, Puts}
use Rattle.aig_eval.proofs.filling.copy_inputs.Given as goal

abbrev pub invariant-loop-at : goal.invariant-loop-at
invariant-loop-at l = Puts (input_vars l.d) (input_row (circuit l.d) l.row) l.at l.fn.vals l.vals
