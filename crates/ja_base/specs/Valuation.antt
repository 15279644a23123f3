-- One step of a circuit: the value of each variable under a latch row and an input row, and what it says.
use Rattle.std.specs.Prelude.{◌≡◌, ℕ, ◌+◌, ◌&&◌, Bool, true, false, Some, List, length, map, All}
use Rattle.std.specs.FinMap as finite_map
use Rattle.ja_base.specs.Literals.{bit, value}
use Rattle.ja_base.specs.Circuit.{Circuit, Latch, bad_literal, is_defined}

-- the latches' bits in a row of values
abbrev pub latch_row : Circuit → List Bool → List Bool
latch_row c values = map (λ (l : Latch). bit values l.var) c.latches

-- the inputs' bits in a row of values
abbrev pub input_row : Circuit → List Bool → List Bool
input_row c values = map (bit values) c.inputs

-- The row has a bit for each variable: the constant is 0, latches and inputs have the bits of their rows, each gate is the
-- "and" of its right sides, and what nothing defines is 0.
pub record IsValuation (c : Circuit) (state input values : List Bool) : Type 0 where
  pub width : length values ≡ c.vars + 1
  pub constant : bit values 0 ≡ false
  pub latches : latch_row c values ≡ state
  pub inputs : input_row c values ≡ input
  pub gates : (g : ℕ) (rights : ℕ × ℕ) → finite_map.get c.gates g ≡ Some rights
      → bit values g ≡ (value values rights.0 && value values rights.1)
  pub rest : (u : ℕ) → is_defined c u ≡ false → bit values u ≡ false

-- the latch row one step later
abbrev pub next_state : Circuit → List Bool → List Bool
next_state c values = map (λ (l : Latch). value values l.next) c.latches

-- the property is broken at this step
abbrev pub IsBad : Circuit → ℕ → List Bool → Type 0
IsBad c p values = value values (bad_literal c p) ≡ true

-- the property is not broken at this step
abbrev pub IsGood : Circuit → ℕ → List Bool → Type 0
IsGood c p values = value values (bad_literal c p) ≡ false

-- each constraint is 1 at this step
abbrev pub MeetsConstraints : Circuit → List Bool → Type 0
MeetsConstraints c values = All (λ l. value values l ≡ true) c.constraints

-- no property of the set is broken at this step; the empty list assumes nothing
abbrev pub AssumptionsHold : Circuit → List Bool → List Bool → Type 0
AssumptionsHold c set values = (p : ℕ) → bit set p ≡ true → IsGood c p values
