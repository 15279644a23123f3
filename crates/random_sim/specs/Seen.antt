-- Which failures a simulation looks for.
use Rattle.std.specs.Prelude.{◌≡◌, ℕ, ◌<◌, ◌⊎◌, Bool, true, false, List, length, ⊤}
use Rattle.ja_base.specs.Literals.{bit}
use Rattle.aig_model.specs.Task.{VerificationTask}
use Rattle.local_stim.specs.Found.{FoundFailure}
use Rattle.random_sim.specs.declared.judging.Judged.{Judged}
use Rattle.random_sim.specs.declared.judging.Judged.TheVariants.{GoesOn, Ends, Breaks}

-- an assumed property of the task
pub record IsBroken (t : VerificationTask) (q : ℕ) : Type 0 where
  pub within : q < length t.design.bads
  pub assumed : bit t.expected q ≡ true

-- an assumed property that is not respected
pub record IsFree (t : VerificationTask) (respect : List Bool) (q : ℕ) : Type 0 where
  pub assumed : bit t.expected q ≡ true
  pub free : bit respect q ≡ false

-- the property that is looked at, or an assumed one that is not respected
pub record IsWanted (t : VerificationTask) (p : ℕ) (respect : List Bool) (q : ℕ) : Type 0 where
  pub within : q < length t.design.bads
  pub prop : (q ≡ p) ⊎ IsFree t respect q

-- what a step breaks is wanted
abbrev pub IsJudged : VerificationTask → ℕ → List Bool → Judged → Type 0
IsJudged t p respect GoesOn = ⊤
IsJudged t p respect Ends = ⊤
IsJudged t p respect (Breaks q) = IsWanted t p respect q

-- a failure of the task, of a property that is wanted
pub record IsSeen (t : VerificationTask) (p : ℕ) (respect : List Bool)
    (failure : FoundFailure) : Type 0 where
  pub task : failure.task ≡ t
  pub prop : (failure.prop ≡ p) ⊎ IsFree t respect failure.prop
