use Rattle.std.proofs.Common.{take}
use Rattle.aig_model.specs.Netlist.{circuit}
use Rattle.aig_model.specs.Task.{problem}
use Rattle.aig_eval.specs.Run.{Fits}
use Rattle.local_stim.specs.Steps.{Replays}
use Rattle.local_stim.proofs.earlier.take_earlier.Given as goal

abbrev pub invariant-loop-step : goal.invariant-loop-step
invariant-loop-step l = record {
  fits : Fits (circuit l.task.design) l.runner;
  replays : Replays (problem l.task) l.stim.first (take l.step l.stim.inputs) l.runner.state l.broken;
}
