-- Clauses as ascending lists of literals.
use Rattle.std.specs.Prelude.{ℕ, ◌<◌, ◌==◌, ◌↔◌, Bool, List, All, Contains}
use Rattle.std.specs.List.{list_any, list_all}
use Rattle.std.specs.List.Sorted.{IsStrictlyIncreasing}
use Rattle.ja_base.specs.Literals.{variable}

-- the clause has exactly these literals, in ascending order, each once
pub record IsSetOf (lits clause : List ℕ) : Type 0 where
  pub ascends : IsStrictlyIncreasing clause
  pub members : (l : ℕ) → Contains clause l ↔ Contains lits l

-- the variables of these literals are below n
abbrev pub IsBelow : ℕ → List ℕ → Type 0
IsBelow n lits = All (λ l. variable l < n) lits

-- l is one of these literals
abbrev pub has_literal : List ℕ → ℕ → Bool
has_literal lits l = list_any (λ m. m == l) lits

-- each literal of the first is one of the second, as a test
abbrev pub is_part : List ℕ → List ℕ → Bool
is_part part whole = list_all (has_literal whole) part
