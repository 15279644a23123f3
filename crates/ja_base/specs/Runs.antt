-- Stimuli, their runs, and what it means that one is a local failure of a property (after Goldberg, Güdemann, Kroening and
-- Mukherjee, DATE 2018, in this project's exact form).
use Rattle.std.specs.Prelude.{◌≡◌, ℕ, ◌<◌, ⊤, Bool, true, Some, List, [], ◌∷◌, ◌++◌, length, slice_get, All}
use Rattle.ja_base.specs.Literals.{bit}
use Rattle.ja_base.specs.Circuit.{Circuit, Latch, Problem}
use Rattle.ja_base.specs.Valuation.{IsValuation, latch_row, next_state, IsBad, MeetsConstraints, AssumptionsHold}

-- a first latch row, and an input row for each step
pub record Trace : Type 0 where
  pub first : List Bool
  pub inputs : List (List Bool)

-- a latch row that agrees with each reset 0 or 1
pub record IsInitial (c : Circuit) (state : List Bool) : Type 0 where
  pub width : length state ≡ length c.latches
  pub agrees : (k : ℕ) (l : Latch) (b : Bool) → slice_get c.latches k ≡ Some l → l.reset ≡ Some b
      → bit state k ≡ b

-- The steps of a run are valuations: one for each input row, the first from this state, each other from the state before.
abbrev pub IsRun : Circuit → List Bool → List (List Bool) → List (List Bool) → Type 0
IsRun c state [] [] = ⊤
IsRun c state (x ∷ xs) (v ∷ vs) = IsValuation c state x v × IsRun c (next_state c v) xs vs
IsRun c state [] (v ∷ vs) = ⊥
IsRun c state (x ∷ xs) [] = ⊥

-- the latch rows of a run
abbrev pub states_of : Circuit → List (List Bool) → List (List Bool)
states_of c [] = []
states_of c (v ∷ vs) = latch_row c v ∷ states_of c vs

-- a stimulus that starts as the resets say and has at least one step, with its steps
pub record IsReplay (c : Circuit) (m : Trace) (steps : List (List Bool)) : Type 0 where
  pub starts : IsInitial c m.first
  pub runs : IsRun c m.first m.inputs steps
  pub has_step : 0 < length steps

-- each constraint is met at each step, the last included
pub record IsLegal (c : Circuit) (m : Trace) (steps : List (List Bool)) : Type 0 where
  pub replay : IsReplay c m steps
  pub constrained : All (MeetsConstraints c) steps

-- a legal stimulus that ends with the step last, before which no assumed property was broken
pub record Reaches (t : Problem) (m : Trace) (earlier : List (List Bool))
    (last : List Bool) : Type 0 where
  pub legal : IsLegal t.circuit m (earlier ++ last ∷ [])
  pub held : All (AssumptionsHold t.circuit t.assumed) earlier

-- The stimulus is legal, breaks the property at its last step, and breaks no assumed property before. At the last step any
-- other property may be broken too.
pub record IsLocalFailure (t : Problem) (p : ℕ) (m : Trace) : Type 0 where
  pub earlier : List (List Bool)
  pub last : List Bool
  pub reached : Reaches t m earlier last
  pub bad : IsBad t.circuit p last

abbrev pub FailsLocally : Problem → ℕ → Type 0
FailsLocally t p = (m : Trace) × IsLocalFailure t p m

-- At step `at` of this legal stimulus some assumed property is broken for the first time, and p is one that is broken there.
pub record IsFirstBroken (t : Problem) (m : Trace) (p : ℕ) : Type 0 where
  pub before : List (List Bool)
  pub at : List Bool
  pub after : List (List Bool)
  pub legal : IsLegal t.circuit m (before ++ at ∷ after)
  pub held : All (AssumptionsHold t.circuit t.assumed) before
  pub assumed : bit t.assumed p ≡ true
  pub bad : IsBad t.circuit p at

-- this legal stimulus breaks a property of the set at some step
pub record BreaksAssumed (c : Circuit) (set : List Bool) (m : Trace) : Type 0 where
  pub before : List (List Bool)
  pub at : List Bool
  pub after : List (List Bool)
  pub legal : IsLegal c m (before ++ at ∷ after)
  pub property : ℕ
  pub assumed : bit set property ≡ true
  pub bad : IsBad c property at

-- a latch row at the last step of a legal stimulus that breaks no assumed property before
pub record IsReachable (t : Problem) (state : List Bool) : Type 0 where
  pub stimulus : Trace
  pub earlier : List (List Bool)
  pub last : List Bool
  pub reached : Reaches t stimulus earlier last
  pub state_is : latch_row t.circuit last ≡ state
