use Rattle.std.proofs.Common.{ℕ, ◌<◌}
use Rattle.ja_base.specs.Replay.{BreaksReset}
use Rattle.aig_model.specs.Netlist.{circuit}
use Rattle.local_stim.proofs.checks.first_reset_broken.Given as goal

abbrev pub invariant-loop-at : goal.invariant-loop-at
invariant-loop-at l = (k : ℕ) → k < l.at → BreaksReset (circuit l.d) l.first k → ⊥
