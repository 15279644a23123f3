-- Kept clauses of which no two say the same, and levels that are at least as tight as others.
use Rattle.std.specs.Prelude.{◌≡◌, ℕ, ◌≤◌, ◌&&◌, Bool, false, List}
use Rattle.std.specs.List.{AllPairs}
use Rattle.ja_base.specs.Circuit.{Circuit}
use Rattle.ja_base.specs.Clauses.{is_part}
use Rattle.ic3_frames.specs.Levels.{Entry}
use Rattle.ic3_frames.specs.Soundness.{MeetsAt}
use Rattle.ic3_frames.specs.Sums.{greatest}

-- the clauses have the same literals
abbrev pub are_alike : List ℕ → List ℕ → Bool
are_alike a b = is_part a b && is_part b a

-- no two of the kept clauses have the same literals
abbrev pub AreApart : List Entry → Type 0
AreApart kept = AllPairs (λ (a b : Entry). are_alike a.clause b.clause ≡ false) kept

-- no clause is blocked at lower levels only, and the rows of a level are among those that it had
pub record IsTighter (c : Circuit) (old new : List Entry) : Type 0 where
  pub rises : (clause : List ℕ) → greatest old clause ≤ greatest new clause
  pub back : (k : ℕ) (s : List Bool) → MeetsAt c s new k → MeetsAt c s old k
