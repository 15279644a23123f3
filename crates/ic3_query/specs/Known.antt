-- What is known of a task: a closed list, and clauses of its own that are inductive with it and have no proof yet.
use Rattle.std.specs.Prelude.{◌≡◌, ℕ, Bool, false, List, ◌++◌, All}
use Rattle.ja_base.specs.Circuit.{Circuit, Problem}
use Rattle.ja_base.specs.Runs.{IsInitial}
use Rattle.ja_base.specs.Valuation.{IsValuation, next_state, MeetsConstraints, AssumptionsHold}
use Rattle.ja_base.specs.Invariants.{MeetsClauses, IsInductive}
use Rattle.aig_model.specs.Task.{VerificationTask}
use Rattle.ja_project.specs.Latches.{is_foreign}
use Rattle.ic3_frames.specs.Soundness.{Meets}

-- a task, the clauses that are closed for it, and those that came after them
pub record KnownList : Type 0 where
  pub task : VerificationTask
  pub list : List (List ℕ)
  pub own : List (List ℕ)

-- all clauses that are known
abbrev pub all_of : KnownList → List (List ℕ)
all_of k = k.list ++ k.own

-- the clauses are over latches, and none says nothing
abbrev pub AreOwn : Circuit → List (List ℕ) → Type 0
AreOwn c clauses = All (λ clause. is_foreign c clause ≡ false) clauses

-- the clauses are inductive under the assumptions of the task
pub record IsKnown (t : Problem) (clauses : List (List ℕ)) : Type 0 where
  pub inductive : IsInductive t.circuit t.assumed clauses
  pub own : AreOwn t.circuit clauses

-- each initial row meets the clause
abbrev pub HoldsAtStart : Circuit → List ℕ → Type 0
HoldsAtStart c clause = (s : List Bool) → IsInitial c s → Meets c s clause

-- A step under the constraints that breaks no property of the set, from a row that meets what is known and the clause, leads to a
-- row that meets the clause.
abbrev pub IsKept : Circuit → List Bool → List (List ℕ) → List ℕ → Type 0
IsKept c set known clause = (s x v : List Bool) → IsValuation c s x v → MeetsClauses c s known
    → Meets c s clause → MeetsConstraints c v → AssumptionsHold c set v
    → Meets c (next_state c v) clause

-- the clause is inductive with what is known
pub record IsForGood (c : Circuit) (set : List Bool) (known : List (List ℕ))
    (clause : List ℕ) : Type 0 where
  pub starts : HoldsAtStart c clause
  pub steps : IsKept c set known clause
