-- A checker that stays loaded.
use Rattle.std.specs.Prelude.{◌≡◌, ℕ, ◌+◌, List, [], ◌∷◌, ◌++◌, map}
use Rattle.aig_model.specs.Netlist.{Netlist}
use Rattle.aig_model.specs.Task.{VerificationTask}
use Rattle.refute_check.specs.Checked.{Checked}
use Rattle.ja_project.specs.CodedClauses.{coded_clauses, held_literals}
use Rattle.inv_cert.specs.Taken.{IsLoaded}

-- a task, and the clauses that came behind those of its design and its assumptions
pub record StepList : Type 0 where
  pub task : VerificationTask
  pub list : List (List ℕ)

-- the clauses of the design, and behind them each assumption
abbrev pub design_clauses : VerificationTask → List (List ℕ)
design_clauses t = coded_clauses t.design ++ map (λ l. l ∷ []) (held_literals t)

-- the same, and behind them the list
abbrev pub listed_clauses : VerificationTask → List (List ℕ) → List (List ℕ)
listed_clauses t list = design_clauses t ++ list

-- the table is that of the design, and the checker has the clauses of a step with this list
pub record IsStepChecker (t : VerificationTask) (table : Netlist) (list : List (List ℕ))
    (checker : Checked) : Type 0 where
  pub table_is : table ≡ t.design
  pub loaded : IsLoaded (t.design.vars + 1) (listed_clauses t list) checker
