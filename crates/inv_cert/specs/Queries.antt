-- The clauses over which a proof is checked.
use Rattle.std.specs.Prelude.{ℕ, List, [], ◌∷◌, ◌++◌, map}
use Rattle.aig_model.specs.Task.{VerificationTask}
use Rattle.ja_project.specs.CodedClauses.{coded_clauses, held_literals}

-- For a candidate, in this order: the clauses of the design, each assumption, the list that is closed already, all candidates.
abbrev pub step_clauses : VerificationTask → List (List ℕ) → List (List ℕ) → List (List ℕ)
step_clauses t base candidates = coded_clauses t.design ++ map (λ l. l ∷ []) (held_literals t)
    ++ base ++ candidates

-- For a property that is to be covered: the clauses of the design and the list, and no assumption.
abbrev pub cover_clauses : VerificationTask → List (List ℕ) → List (List ℕ)
cover_clauses t clauses = coded_clauses t.design ++ clauses
