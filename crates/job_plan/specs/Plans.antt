-- The order in which the properties of a task are drawn.
use Rattle.std.specs.Prelude.{◌≡◌, ℕ, ◌+◌, ◌<◌, max, ◌⊎◌, true, false, Some, None, List, AllPairs, length}
use Rattle.std.specs.FinMap as finite_map
use Rattle.ja_base.specs.Literals.{bit, variable}
use Rattle.ja_base.specs.Circuit.{Circuit, Problem, bad_literal}
use Rattle.store_core.specs.Boards.{ListsEach}

-- A gate is one deeper than the deeper of its right sides; what is no gate has depth 0.
pub record IsDepth (c : Circuit) (depth : ℕ → ℕ) : Type 0 where
  pub gates : (g : ℕ) (rights : ℕ × ℕ) → finite_map.get c.gates g ≡ Some rights
      → depth g ≡ max (depth (variable rights.0)) (depth (variable rights.1)) + 1
  pub others : (u : ℕ) → finite_map.get c.gates u ≡ None → depth u ≡ 0

-- the depth of the property's bad literal
abbrev pub depth_of : Problem → (ℕ → ℕ) → ℕ → ℕ
depth_of t depth p = depth (variable (bad_literal t.circuit p))

-- the first is less deep, or as deep and has the lower number
abbrev pub IsShallower : Problem → (ℕ → ℕ) → ℕ → ℕ → Type 0
IsShallower t depth p q =
    (depth_of t depth p < depth_of t depth q)
    ⊎ ((depth_of t depth p ≡ depth_of t depth q) × (p < q))

-- The first is expected to hold and the second is not, or both are expected alike and the first is shallower.
abbrev pub IsBefore : Problem → (ℕ → ℕ) → ℕ → ℕ → Type 0
IsBefore t depth p q = ((bit t.assumed p ≡ true) × (bit t.assumed q ≡ false))
    ⊎ ((bit t.assumed p ≡ bit t.assumed q) × IsShallower t depth p q)

-- each property once, in that order
pub record IsPlan (t : Problem) (plan : List ℕ) : Type 0 where
  pub each : ListsEach (length t.circuit.bads) plan
  pub depth : ℕ → ℕ
  pub depth_is : IsDepth t.circuit depth
  pub sorted : AllPairs (IsBefore t depth) plan
