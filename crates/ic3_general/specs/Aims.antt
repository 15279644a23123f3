-- What a search is for, and which failures it may end with.
use Rattle.std.specs.Prelude.{◌≡◌, ℕ, ◌<◌, ◌⊎◌, Bool, true, false, List, length}
use Rattle.ja_base.specs.Literals.{bit}
use Rattle.aig_model.specs.Task.{VerificationTask, problem}
use Rattle.local_stim.specs.Found.{FoundFailure}
use Rattle.ic3_general.specs.declared.aim.Aim.{Aim}
use Rattle.ic3_general.specs.Chains.{AllLead}

-- the task in which just these properties are assumed
abbrev pub respecting : VerificationTask → List Bool → VerificationTask
respecting t respect = record { design = t.design; expected = respect }

-- the property is one of the design, and what the aim respects is assumed
pub record IsAim (t : VerificationTask) (a : Aim) : Type 0 where
  pub within : a.prop < length t.design.bads
  pub wide : length a.respect ≡ length t.design.bads
  pub assumed : (q : ℕ) → bit a.respect q ≡ true → bit t.expected q ≡ true

-- the input rows lead from each latch row of the cube to a step that breaks the aim's property, and break nothing before that the
-- aim respects
abbrev pub LeadsOn : VerificationTask → Aim → List ℕ → List (List Bool) → Type 0
LeadsOn t a clause chain = AllLead (problem (respecting t a.respect)) a.prop clause chain

-- an assumed property that the aim does not respect
pub record IsPassedOver (t : VerificationTask) (a : Aim) (q : ℕ) : Type 0 where
  pub assumed : bit t.expected q ≡ true
  pub free : bit a.respect q ≡ false

-- a failure of the aim's property, or of an assumed one that it does not respect
pub record IsFailureOn (t : VerificationTask) (a : Aim) (failure : FoundFailure) : Type 0 where
  pub task : failure.task ≡ t
  pub prop : (failure.prop ≡ a.prop) ⊎ IsPassedOver t a failure.prop
