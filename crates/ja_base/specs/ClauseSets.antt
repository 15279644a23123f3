-- Lists of clauses in which none stands twice, and how two become one.
use Rattle.std.specs.Prelude.{◌≢◌, ℕ, Bool, if◌then◌else◌, List, [], ◌∷◌, ◌++◌, bytes_eq, AllPairs}
use Rattle.std.specs.List.{list_any}

-- no two clauses are the same
abbrev pub AreDistinct : List (List ℕ) → Type 0
AreDistinct clauses = AllPairs (λ a b. a ≢ b) clauses

-- the clause is one of the list
abbrev pub has_clause : List (List ℕ) → List ℕ → Bool
has_clause clauses clause = list_any (λ c. bytes_eq c clause) clauses

-- the first list, and behind it the clauses of the second that it does not have, in order, each once
abbrev pub joined : List (List ℕ) → List (List ℕ) → List (List ℕ)
joined clauses [] = clauses
joined clauses (c ∷ cs) = joined (if has_clause clauses c then clauses else clauses ++ c ∷ []) cs

-- the clauses of the second list that the first does not have, in order, each once
abbrev pub fresh : List (List ℕ) → List (List ℕ) → List (List ℕ)
fresh clauses [] = []
fresh clauses (c ∷ cs) = if has_clause clauses c then fresh clauses cs
    else c ∷ fresh (clauses ++ c ∷ []) cs
