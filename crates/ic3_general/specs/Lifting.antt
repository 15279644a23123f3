-- The three-valued rule: which literals are 1 in each row of a cube under a given input row, as far as one pass over the gates
-- can tell.
use Rattle.std.specs.Prelude.{◌≡◌, ℕ, ◌+◌, ◌*◌, ◌≤◌, ◌==◌, ◌&&◌, ◌||◌, Bool, true, false, not, Some, is_some, List, length, filter, All, Any, Contains}
use Rattle.std.specs.FinMap as finite_map
use Rattle.ja_base.specs.Literals.{bit, variable, negated, literal_of, value}
use Rattle.ja_base.specs.Circuit.{Circuit}
use Rattle.ja_base.specs.Clauses.{has_literal}
use Rattle.ja_base.specs.Valuation.{IsValuation, input_row}
use Rattle.ja_project.specs.Latches.{is_over_latch}
use Rattle.ic3_general.specs.Cubes.{IsOutside}

-- the clause without this literal
abbrev pub without : ℕ → List ℕ → List ℕ
without l clause = filter (λ m. not (m == l)) clause

-- The row has a bit for each literal. A literal over a latch has 1 exactly where the clause has its negation: the cube has the
-- negations of the clause's literals. A literal over any other variable that is no gate's has its value.
pub record HasLeaves (c : Circuit) (values : List Bool) (clause : List ℕ) (sure : List Bool)
    : Type 0 where
  pub width : length sure ≡ 2 * (c.vars + 1)
  pub latches : (l : ℕ) → is_over_latch c l ≡ true → bit sure l ≡ has_literal clause (negated l)
  pub others : (l : ℕ) → variable l ≤ c.vars → is_over_latch c l ≡ false
      → is_some (finite_map.get c.gates (variable l)) ≡ false → bit sure l ≡ value values l

-- The row has a bit for each literal, 1 where the literal is surely 1: a gate where both its right sides are, its negation where
-- the negation of one of them is.
pub record IsSureRow (c : Circuit) (values : List Bool) (clause : List ℕ) (sure : List Bool)
    : Type 0 where
  pub leaves : HasLeaves c values clause sure
  pub ands : (g : ℕ) (rights : ℕ × ℕ) → finite_map.get c.gates g ≡ Some rights
      → bit sure (literal_of g false) ≡ (bit sure rights.0 && bit sure rights.1)
  pub ors : (g : ℕ) (rights : ℕ × ℕ) → finite_map.get c.gates g ≡ Some rights
      → bit sure (literal_of g true)
      ≡ (bit sure (negated rights.0) || bit sure (negated rights.1))

-- from each latch row of the cube that the clause excludes the input bits of the row of values make each target literal 1
abbrev pub MakesSure : Circuit → List Bool → List ℕ → List ℕ → Type 0
MakesSure c values target clause = (s v : List Bool) → IsOutside c clause s
    → IsValuation c s (input_row c values) v → All (λ l. value v l ≡ true) target

-- without any one of the clause's literals some target literal is not surely 1
abbrev pub IsLeast : Circuit → List Bool → List ℕ → List ℕ → Type 0
IsLeast c values target clause = (l : ℕ) → Contains clause l → (sure : List Bool)
    → IsSureRow c values (without l clause) sure → Any (λ t. bit sure t ≡ false) target
