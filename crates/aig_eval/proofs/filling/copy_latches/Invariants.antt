use Rattle.ja_base.specs.Valuation.{latch_row}
use Rattle.aig_model.specs.Netlist.{circuit}
use Rattle.aig_eval.specs.Rows.{latch_vars, Puts}
use Rattle.aig_eval.proofs.filling.copy_latches.Given as goal

abbrev pub invariant-loop-at : goal.invariant-loop-at
invariant-loop-at l = Puts (latch_vars l.d) (latch_row (circuit l.d) l.row) l.at l.fn.vals l.vals
