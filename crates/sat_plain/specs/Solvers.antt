-- What a contract sees of the plain solver.
use Rattle.std.specs.Prelude.{◌≡◌, ℕ, ◌^◌, ◌≤◌, List, length, All}
use Rattle.ja_base.specs.Clauses.{IsBelow}
use Rattle.refute_check.specs.Checked.{Numbering}

-- how many variables there are, and the added clauses
pub record Solver : Type 0 where
  pub vars : ℕ
  pub added : List (List ℕ)

-- between queries there are the added clauses alone
pub record IsStore (vars : ℕ) (clauses : Numbering) : Type 0 where
  pub small : vars ≤ 2 ^ 31
  pub added : clauses.list ≡ clauses.added
  pub kept : clauses.kept ≡ length clauses.list
  pub below : All (IsBelow vars) clauses.list
