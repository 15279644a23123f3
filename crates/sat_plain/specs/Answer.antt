-- What a query of a solver answers.
use Rattle.std.specs.Prelude.{ℕ, List, [], ◌∷◌, ◌++◌, Option, Some, None, ⊤}
use Rattle.ja_base.specs.Clauses.{IsBelow}
use Rattle.refute_check.specs.Refuted.{Satisfies}
use Rattle.refute_check.specs.Laws.{Refutes}
use Rattle.refute_check.specs.declared.lines.Refuted.{Refuted}
use Rattle.sat_plain.specs.declared.answer.SatAnswer.{SatAnswer}
use Rattle.sat_plain.specs.declared.answer.SatAnswer.TheVariants.{Sat, Unsat, Spent, Stopped, Memory}

-- the clauses of a query: the added ones, and the extra one where it is given
abbrev pub clauses_of : List (List ℕ) → Option (List ℕ) → List (List ℕ)
clauses_of added None = added
clauses_of added (Some clause) = added ++ clause ∷ []

-- the extra clause, where it is given, is over variables below `vars`
abbrev pub ExtraIsBelow : ℕ → Option (List ℕ) → Type 0
ExtraIsBelow vars None = ⊤
ExtraIsBelow vars (Some clause) = IsBelow vars clause

-- a row that meets all, or lines that show that none does; the other answers say nothing of the clauses
abbrev pub IsAnswer : ℕ → List (List ℕ) → List ℕ → SatAnswer → Type 0
IsAnswer vars clauses under (Sat row) = Satisfies vars clauses under row
IsAnswer vars clauses under (Unsat refuted) = Refutes vars clauses under refuted
IsAnswer vars clauses under Spent = ⊤
IsAnswer vars clauses under Stopped = ⊤
IsAnswer vars clauses under Memory = ⊤

-- a fact, where the answer is `Stopped`
abbrev pub OnStopped : SatAnswer → Type 0 → Type 0
OnStopped (Sat row) P = ⊤
OnStopped (Unsat refuted) P = ⊤
OnStopped Spent P = ⊤
OnStopped Stopped P = P
OnStopped Memory P = ⊤

-- a fact of what is refuted, where the answer is `Unsat`
abbrev pub OnUnsat : SatAnswer → (Refuted → Type 0) → Type 0
OnUnsat (Sat row) P = ⊤
OnUnsat (Unsat refuted) P = P refuted
OnUnsat Spent P = ⊤
OnUnsat Stopped P = ⊤
OnUnsat Memory P = ⊤
