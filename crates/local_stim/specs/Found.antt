-- What contracts see of a local failure that was found.
use Rattle.std.specs.Prelude.{ℕ}
use Rattle.ja_base.specs.Runs.{Trace}
use Rattle.aig_model.specs.Task.{VerificationTask}

-- a task, a property of it, and a stimulus
pub record FoundFailure : Type 0 where
  pub task : VerificationTask
  pub prop : ℕ
  pub stim : Trace
