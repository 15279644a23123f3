-- What comes of the question for a proof.
use Rattle.std.specs.Prelude.{ℕ, Bool, Option, Some, None, List}
use Rattle.refute_check.specs.Laws.{Refutes}
use Rattle.refute_check.specs.Refuted.{Satisfies}
use Rattle.refute_check.specs.declared.lines.Refuted.{Refuted}

-- lines that refute the literals, or else a row that meets them
abbrev pub IsSolved : ℕ → List (List ℕ) → List ℕ → Option Refuted → Type 0
IsSolved vars clauses under (Some refuted) = Refutes vars clauses under refuted
IsSolved vars clauses under None = (row : List Bool) × Satisfies vars clauses under row
