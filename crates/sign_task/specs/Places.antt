-- Where the failure of a property stands among all.
use Rattle.std.specs.Prelude.{◌≡◌, ℕ, Some, List, length, slice_get, slice_index_or}
use Rattle.store_core.specs.declared.mark.Mark.{Mark}
use Rattle.store_core.specs.declared.mark.Mark.TheVariants.{Fails}
use Rattle.local_stim.specs.Found.{FoundFailure}

-- the failure at this place is one of the property
pub record IsAt (failures : List FoundFailure) (place p : ℕ) : Type 0 where
  pub failure : FoundFailure
  pub stands : slice_get failures place ≡ Some failure
  pub prop : failure.prop ≡ p

-- some failure is one of the property
pub record HasFailure (failures : List FoundFailure) (p : ℕ) : Type 0 where
  pub place : ℕ
  pub is_at : IsAt failures place p

-- each property that has a failure has the place of one
pub record ArePlaces (failures : List FoundFailure) (props : ℕ) (places : List ℕ) : Type 0 where
  pub width : length places ≡ props
  pub are : (p : ℕ) → HasFailure failures p → IsAt failures (slice_index_or places p 0) p

-- each property that fails has a failure
abbrev pub AllHaveFailure : List FoundFailure → List Mark → Type 0
AllHaveFailure failures marks = (p : ℕ) → slice_get marks p ≡ Some Fails → HasFailure failures p
