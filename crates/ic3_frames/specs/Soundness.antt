-- What a row of latches is at a level, when levels are sound, and what an addition does to them.
use Rattle.std.specs.Prelude.{ℕ, ◌≤◌, suc, zero, Bool, List, All}
use Rattle.ja_base.specs.Literals.{SatisfiedBy}
use Rattle.ja_base.specs.Circuit.{Circuit}
use Rattle.ja_base.specs.Runs.{IsInitial}
use Rattle.ja_base.specs.Valuation.{IsValuation, next_state, MeetsConstraints, AssumptionsHold}
use Rattle.ja_base.specs.Invariants.{latch_value, MeetsClauses}
use Rattle.ic3_frames.specs.Levels.{Entry}

-- some literal of the clause is 1 in the row
abbrev pub Meets : Circuit → List Bool → List ℕ → Type 0
Meets c s clause = SatisfiedBy (latch_value c.latches s) clause

-- the row meets each clause that stands at the level
abbrev pub MeetsAt : Circuit → List Bool → List Entry → ℕ → Type 0
MeetsAt c s kept k = All (λ (e : Entry). k ≤ e.level → Meets c s e.clause) kept

-- the row is one of the level: at level 0 an initial one, above it one that meets the clauses that stand there
abbrev pub IsIn : Circuit → List Entry → ℕ → List Bool → Type 0
IsIn c kept zero s = IsInitial c s
IsIn c kept (suc k) s = MeetsAt c s kept (suc k)

-- Each initial row is in all levels. A step under the constraints that breaks no property of the set, from a row of a level that
-- meets what is known, leads to a row of the next level.
pub record AreSound (c : Circuit) (set : List Bool) (known : List (List ℕ))
    (kept : List Entry) : Type 0 where
  pub starts : (s : List Bool) → IsInitial c s → MeetsAt c s kept 0
  pub steps : (k : ℕ) (s x v : List Bool) → IsValuation c s x v → MeetsClauses c s known
      → IsIn c kept k s → MeetsConstraints c v → AssumptionsHold c set v
      → MeetsAt c (next_state c v) kept (suc k)

-- each initial row meets the clause, and so does the row that such a step leads to from a row of the level that meets it
pub record IsBlockedFrom (c : Circuit) (set : List Bool) (known : List (List ℕ))
    (kept : List Entry) (k : ℕ) (clause : List ℕ) : Type 0 where
  pub starts : (s : List Bool) → IsInitial c s → Meets c s clause
  pub steps : (s x v : List Bool) → IsValuation c s x v → MeetsClauses c s known → IsIn c kept k s
      → Meets c s clause → MeetsConstraints c v → AssumptionsHold c set v
      → Meets c (next_state c v) clause

-- at each level up to this one the new clauses say what the old ones and this clause say, above it what the old ones say
pub record Gains (c : Circuit) (level : ℕ) (clause : List ℕ) (old new : List Entry) : Type 0 where
  pub forth : (k : ℕ) (s : List Bool) → MeetsAt c s old k → (k ≤ level → Meets c s clause)
      → MeetsAt c s new k
  pub back : (k : ℕ) (s : List Bool) → MeetsAt c s new k → MeetsAt c s old k
  pub gained : (k : ℕ) (s : List Bool) → MeetsAt c s new k → k ≤ level → Meets c s clause
