-- How far levels can still rise: the sum of the greatest level over all clauses.
use Rattle.std.specs.Prelude.{ℕ, true, false, max, if◌then◌else◌, List, [], ◌∷◌, ◌++◌, map, Contains}
use Rattle.std.specs.List.{sum_by}
use Rattle.ja_base.specs.Literals.{variable, negated, literal_of}
use Rattle.ja_base.specs.Clauses.{is_part}
use Rattle.ic3_frames.specs.Levels.{Entry}

-- the greatest level at which the clause is blocked; 0, where it is blocked at none
abbrev pub greatest : List Entry → List ℕ → ℕ
greatest [] clause = 0
greatest (e ∷ es) clause =
    if is_part e.clause clause then max e.level (greatest es clause) else greatest es clause

-- the clauses over these variables: of each variable the clause has one sign, the other, or none
abbrev pub clauses_over : List ℕ → List (List ℕ)
clauses_over [] = [] ∷ []
clauses_over (v ∷ vs) =
    clauses_over vs ++ map (λ c. literal_of v false ∷ c) (clauses_over vs)
    ++ map (λ c. literal_of v true ∷ c) (clauses_over vs)

-- each literal is over one of these variables, and no variable has both signs
pub record IsOver (vars clause : List ℕ) : Type 0 where
  pub among : (l : ℕ) → Contains clause l → Contains vars (variable l)
  pub one_sign : (l : ℕ) → Contains clause l → Contains clause (negated l) → ⊥

-- the sum of the greatest levels
abbrev pub potential : List ℕ → List Entry → ℕ
potential vars kept = sum_by (greatest kept) (clauses_over vars)
