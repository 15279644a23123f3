use Rattle.std.proofs.Common.{ℕ, ◌<◌}
use Rattle.aig_model.specs.Task.{problem}
use Rattle.local_stim.specs.Steps.{BreaksAssumption}
use Rattle.local_stim.proofs.checks.first_assumed_broken.Given as goal

abbrev pub invariant-loop-prop : goal.invariant-loop-prop
invariant-loop-prop l = (p : ℕ) → p < l.prop → BreaksAssumption (problem l.task) l.vals p → ⊥
