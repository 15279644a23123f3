-- What contracts see of a closed list, and what makes one closed.
use Rattle.std.specs.Prelude.{◌≡◌, ℕ, false, List, All}
use Rattle.ja_base.specs.Circuit.{Problem}
use Rattle.ja_base.specs.ClauseSets.{AreDistinct}
use Rattle.ja_base.specs.Invariants.{IsInductive}
use Rattle.aig_model.specs.Task.{VerificationTask}
use Rattle.ja_project.specs.Latches.{is_foreign}

-- a task, and the clauses that are closed for it
pub record ClosedList : Type 0 where
  pub task : VerificationTask
  pub clauses : List (List ℕ)

-- The list is inductive under the assumptions of its task; its clauses are over latches, none says nothing, and none stands
-- twice.
pub record IsClosed (t : Problem) (clauses : List (List ℕ)) : Type 0 where
  pub inductive : IsInductive t.circuit t.assumed clauses
  pub own : All (λ clause. is_foreign t.circuit clause ≡ false) clauses
  pub distinct : AreDistinct clauses
