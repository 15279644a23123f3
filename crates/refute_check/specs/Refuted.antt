-- What it is that a list of clauses is refuted, and when a clause shows it at once.
use Rattle.std.specs.Prelude.{◌≡◌, ℕ, ◌||◌, Bool, true, List, All, length}
use Rattle.std.specs.List.{list_any, list_all}
use Rattle.ja_base.specs.Literals.{negated, value, AllSatisfiedBy}
use Rattle.ja_base.specs.Clauses.{has_literal}

-- the row has a bit for each variable, and under it each clause holds and each literal of `under` is 1
pub record Satisfies (vars : ℕ) (clauses : List (List ℕ)) (under : List ℕ)
    (row : List Bool) : Type 0 where
  pub width : length row ≡ vars
  pub clauses_hold : AllSatisfiedBy (value row) clauses
  pub under_holds : All (λ l. value row l ≡ true) under

-- no row satisfies the clauses and `under`
abbrev pub IsRefuted : ℕ → List (List ℕ) → List ℕ → Type 0
IsRefuted vars clauses under = (row : List Bool) → Satisfies vars clauses under row → ⊥

-- some variable has both signs
abbrev pub has_both_signs : List ℕ → Bool
has_both_signs lits = list_any (λ l. has_literal lits (negated l)) lits

-- the negation of each literal of the clause is one of `under`
abbrev pub is_false_under : List ℕ → List ℕ → Bool
is_false_under under clause = list_all (λ l. has_literal under (negated l)) clause

-- `under` contradicts itself or some clause
abbrev pub is_covered : List (List ℕ) → List ℕ → Bool
is_covered clauses under = list_any (is_false_under under) clauses || has_both_signs under
