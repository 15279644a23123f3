-- What the workers of one pool share.
use Rattle.std.specs.Prelude.{◌≡◌, ℕ, Bool, Option, length}
use Rattle.ja_base.specs.Circuit.{Problem}
use Rattle.aig_model.specs.Task.{VerificationTask, problem}
use Rattle.store_core.specs.declared.journal.Opening.{Opening}

-- The task is the one that is named, the opening has a bit for each of its properties, the limit is the opening's, and the flag
-- may rise exactly under fail-fast.
pub record IsPool (opening : Opening) (task : Problem) (t : VerificationTask) (limit : Option ℕ)
    (may : Bool) : Type 0 where
  pub task_is : problem t ≡ task
  pub width : length opening.assumed ≡ length t.design.bads
  pub limit_is : limit ≡ opening.limit
  pub may_is : may ≡ opening.fail_fast
