-- What a sign-off says of all properties together.
use Rattle.std.specs.Prelude.{◌≡◌, ℕ, ◌↔◌, Bool, true, List, Contains}
use Rattle.std.specs.List.Sorted.{IsStrictlyIncreasing}
use Rattle.ja_base.specs.Literals.{bit}

-- the debugging set: in ascending order, the properties that are expected to hold and were found to fail
pub record IsDebuggingSet (assumed fails : List Bool) (set : List ℕ) : Type 0 where
  pub ascends : IsStrictlyIncreasing set
  pub members : (p : ℕ) → Contains set p ↔ ((bit assumed p ≡ true) × (bit fails p ≡ true))

-- each property that is expected to hold was proved
abbrev pub IsJoined : List Bool → List Bool → Type 0
IsJoined assumed proved = (p : ℕ) → bit assumed p ≡ true → bit proved p ≡ true
