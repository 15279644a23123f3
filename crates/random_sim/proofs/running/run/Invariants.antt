use Rattle.std.proofs.Common.{◌≡◌, ◌+◌, length, All}
use Rattle.aig_model.specs.Netlist.{circuit}
use Rattle.aig_eval.specs.Run.{Fits}
use Rattle.random_sim.proofs.running.run.Given as goal

abbrev pub invariant-loop-at : goal.invariant-loop-at
invariant-loop-at l = record {
  fits : Fits (circuit l.task.design) l.runner;
  count : length l.rows ≡ l.at + 1;
  rows : All (λ row. length row ≡ length l.task.design.inputs) l.rows;
}
