-- What the engine finds of a property.
use Rattle.std.specs.Prelude.{◌≡◌, ℕ, ◌⊎◌, Bool, true, false, Option, None, Some, List, slice_set, ⊤}
use Rattle.ja_base.specs.Literals.{bit}
use Rattle.aig_model.specs.Task.{VerificationTask, problem}
use Rattle.local_stim.specs.Found.{FoundFailure}
use Rattle.ic3_general.specs.declared.aim.Aim.{Aim}
use Rattle.ic3_general.specs.Aims.{IsFailureOn}
use Rattle.ic3_engine.specs.declared.found.Found.{Found}
use Rattle.ic3_engine.specs.declared.found.Found.TheVariants.{Proved, Fails}
use Rattle.ic3_engine.specs.declared.proved.ProvedList.{ProvedList}

-- a closed list of the task, for this property
pub record IsProvedFor (t : VerificationTask) (p : ℕ) (proved : ProvedList) : Type 0 where
  pub task : problem proved.list.task ≡ problem t
  pub prop : proved.prop ≡ p

-- a failure of this property
pub record IsFailureFor (t : VerificationTask) (p : ℕ) (failure : FoundFailure) : Type 0 where
  pub task : failure.task ≡ t
  pub prop : failure.prop ≡ p

-- a closed list that covers the property, or a failure of it
abbrev pub IsFoundOf : VerificationTask → ℕ → Found → Type 0
IsFoundOf t p (Proved proved) = IsProvedFor t p proved
IsFoundOf t p (Fails failure) = IsFailureFor t p failure

-- a closed list that covers the aim's property, or a failure that the aim may end with
abbrev pub IsFoundOn : VerificationTask → Aim → Found → Type 0
IsFoundOn t a (Proved proved) = IsProvedFor t a.prop proved
IsFoundOn t a (Fails failure) = IsFailureOn t a failure

-- an assumed property of which no failure was found before: the bits of the others are set
pub record IsUnseen (t : VerificationTask) (failed : List Bool) (p : ℕ) : Type 0 where
  pub assumed : bit t.expected p ≡ true
  pub unseen : bit failed p ≡ false

-- the property is covered by just this list
abbrev pub HasList : List (List ℕ) → Found → Type 0
HasList clauses (Proved proved) = proved.list.clauses ≡ clauses
HasList clauses (Fails failure) = ⊥

-- a failure of the property, or one of an assumed property of which none was found before
pub record IsFailureSeen (t : VerificationTask) (p : ℕ) (failed : List Bool)
    (failure : FoundFailure) : Type 0 where
  pub task : failure.task ≡ t
  pub prop : (failure.prop ≡ p) ⊎ IsUnseen t failed failure.prop

-- a closed list that covers the property, or such a failure
abbrev pub IsFound : VerificationTask → ℕ → List Bool → Found → Type 0
IsFound t p failed (Proved proved) = IsProvedFor t p proved
IsFound t p failed (Fails failure) = IsFailureSeen t p failed failure

-- the fact holds of the failure, if there is one
abbrev pub IfFails : Found → (FoundFailure → Type 0) → Type 0
IfFails (Proved proved) P = ⊤
IfFails (Fails failure) P = P failure

-- the bits of the properties of which a failure was found, with this answer
abbrev pub noted : List Bool → Found → List Bool
noted failed (Proved proved) = failed
noted failed (Fails failure) = slice_set failed failure.prop true

-- the same, where there is an answer
abbrev pub noted_answer : List Bool → Option Found → List Bool
noted_answer failed None = failed
noted_answer failed (Some found) = noted failed found
