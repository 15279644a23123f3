-- What a design is, as plain data (AIGER 1.9): the circuit, and the verification task over it.
use Rattle.std.specs.Prelude.{◌≡◌, ℕ, ◌<◌, ◌==◌, ◌||◌, Bool, Option, Some, List, is_some, slice_index}
use Rattle.std.specs.List.{list_any}
use Rattle.std.specs.Ordering.{nat_cmp}
use Rattle.std.specs.FinMap as finite_map
use Rattle.ja_base.specs.Literals.{variable}

-- a latch: its variable, the literal of its next state, and its first state, which is free where it is None
pub record Latch : Type 0 where
  pub var : ℕ
  pub next : ℕ
  pub reset : Option Bool

pub record Circuit : Type 0 where
  -- the greatest variable; variable 0 is the constant
  pub vars : ℕ
  -- the input variables
  pub inputs : List ℕ
  pub latches : List Latch
  -- from each gate's variable to its two right literals; gates have no order
  pub gates : finite_map.FinMap nat_cmp (ℕ × ℕ)
  -- one bad literal for each property
  pub bads : List ℕ
  pub constraints : List ℕ

-- A circuit, and one bit for each property: whether it is expected to hold. Those are the properties that are assumed at
-- earlier steps. A bit that lacks assumes nothing.
pub record Problem : Type 0 where
  pub circuit : Circuit
  pub assumed : List Bool

-- a property's bad literal; past the last property it is the literal that is always false
abbrev pub bad_literal : Circuit → ℕ → ℕ
bad_literal c p = slice_index c.bads p

-- an input, a latch or a gate has this variable
abbrev pub is_defined : Circuit → ℕ → Bool
is_defined c u =
    list_any (λ v. u == v) c.inputs || list_any (λ (l : Latch). u == l.var) c.latches
    || is_some (finite_map.get c.gates u)

-- No gate depends on itself through gates: there are heights that rise from the right sides of each gate to the gate.
pub record IsAcyclic (c : Circuit) : Type 0 where
  pub height : ℕ → ℕ
  pub rises : (g : ℕ) (rights : ℕ × ℕ) → finite_map.get c.gates g ≡ Some rights
      → (height (variable rights.0) < height g) × (height (variable rights.1) < height g)
