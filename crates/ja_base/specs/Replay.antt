-- The verdict of a replay: the first reason why a stimulus is no local failure of a property, or that it is one. The
-- reasons are taken in this order: the first row, a constraint, the last step, the assumptions at earlier steps.
use Rattle.std.specs.Prelude.{◌≡◌, ℕ, ◌<◌, Bool, true, not, Some, List, [], ◌∷◌, ◌++◌, length, slice_get, slice_index_or}
use Rattle.ja_base.specs.Literals.{bit}
use Rattle.ja_base.specs.Circuit.{Circuit, Latch, Problem}
use Rattle.ja_base.specs.Valuation.{IsBad, IsGood, MeetsConstraints}
use Rattle.ja_base.specs.Runs.{Trace, IsReplay, IsLegal}

-- the least number with this property
abbrev pub IsLeast : (ℕ → Type 0) → ℕ → Type 0
IsLeast P k = P k × ((j : ℕ) → j < k → P j → ⊥)

-- the valuation of step k
abbrev pub step_at : List (List Bool) → ℕ → List Bool
step_at steps k = slice_index_or steps k []

-- latch k has a reset 0 or 1, and the row has the other bit there
pub record BreaksReset (c : Circuit) (state : List Bool) (k : ℕ) : Type 0 where
  pub latch : Latch
  pub reset : Bool
  pub latch_is : slice_get c.latches k ≡ Some latch
  pub given : latch.reset ≡ Some reset
  pub other : bit state k ≡ not reset

-- some constraint is 0 at step k
abbrev pub BreaksConstraint : Circuit → List (List Bool) → ℕ → Type 0
BreaksConstraint c steps k = (k < length steps) × (MeetsConstraints c (step_at steps k) → ⊥)

-- the assumed property q is broken at step k
abbrev pub BreaksAt : Problem → List (List Bool) → ℕ → ℕ → Type 0
BreaksAt t steps k q = (k < length steps) × (bit t.assumed q ≡ true)
    × IsBad t.circuit q (step_at steps k)

-- k is the least latch whose reset the first row breaks
pub record IsNotInitial (t : Problem) (m : Trace) (k : ℕ) : Type 0 where
  pub least_latch : IsLeast (BreaksReset t.circuit m.first) k

-- the first row is right, and k is the least step at which a constraint is 0
pub record LeavesConstraints (t : Problem) (m : Trace) (k : ℕ) : Type 0 where
  pub steps : List (List Bool)
  pub replay : IsReplay t.circuit m steps
  pub least_step : IsLeast (BreaksConstraint t.circuit steps) k

-- the stimulus is legal, and its last step does not break p
pub record EndsGood (t : Problem) (p : ℕ) (m : Trace) : Type 0 where
  pub earlier : List (List Bool)
  pub last : List Bool
  pub legal : IsLegal t.circuit m (earlier ++ last ∷ [])
  pub good : IsGood t.circuit p last

-- The stimulus is legal and its last step breaks p, but k is the least earlier step at which an assumed property is broken,
-- and q the least such property there.
pub record BreaksEarlier (t : Problem) (p : ℕ) (m : Trace) (k q : ℕ) : Type 0 where
  pub earlier : List (List Bool)
  pub last : List Bool
  pub legal : IsLegal t.circuit m (earlier ++ last ∷ [])
  pub bad : IsBad t.circuit p last
  pub least_step : IsLeast (λ j. (r : ℕ) × BreaksAt t earlier j r) k
  pub least_property : IsLeast (BreaksAt t earlier k) q
