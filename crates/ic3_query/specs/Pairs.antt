-- A checker and a solver that stay loaded.
use Rattle.std.specs.Prelude.{◌≡◌, ℕ, ◌+◌, List}
use Rattle.inv_cert.specs.Loaded.{StepList, listed_clauses}

-- the solver has the checker's clauses, in one order
pub record IsPair (checker : StepList) (count : ℕ) (added : List (List ℕ)) : Type 0 where
  pub count_is : count ≡ checker.task.design.vars + 1
  pub added_is : added ≡ listed_clauses checker.task checker.list
