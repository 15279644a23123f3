-- Which obligation comes next.
use Rattle.std.specs.Prelude.{◌≡◌, ℕ, ◌+◌, ◌<◌, ◌≤◌, Some, List, ◌++◌, take, drop, slice_get}
use Rattle.ic3_oblig.specs.declared.obligation.Obligation.{Obligation}

-- of the first n obligations the one at this place has the lowest level, and among those of its level it is the first
pub record IsLowestOf (waiting : List Obligation) (n place : ℕ) : Type 0 where
  pub obligation : Obligation
  pub is : slice_get waiting place ≡ Some obligation
  pub within : place < n
  pub lowest : (k : ℕ) (o : Obligation) → k < n → slice_get waiting k ≡ Some o
      → obligation.level ≤ o.level
  pub first : (k : ℕ) (o : Obligation) → k < place → slice_get waiting k ≡ Some o
      → obligation.level < o.level

-- This obligation was taken, and the others stay in their order: no level is lower, and none that was put before has its level.
pub record IsTaken (before : List Obligation) (taken : Obligation)
    (after : List Obligation) : Type 0 where
  pub place : ℕ
  pub is : slice_get before place ≡ Some taken
  pub rest : after ≡ take place before ++ drop (place + 1) before
  pub lowest : (k : ℕ) (o : Obligation) → slice_get before k ≡ Some o → taken.level ≤ o.level
  pub first : (k : ℕ) (o : Obligation) → k < place → slice_get before k ≡ Some o
      → taken.level < o.level
