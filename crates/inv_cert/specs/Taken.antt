-- A checker that takes the lines of a proof, and the parts of what is wrong with it.
use Rattle.std.specs.Prelude.{◌≡◌, ℕ, ◌+◌, not, if◌then◌else◌, Option, Some, None, List, ◌++◌, length}
use Rattle.aig_model.specs.Netlist.{circuit}
use Rattle.aig_model.specs.Task.{VerificationTask}
use Rattle.refute_check.specs.Checked.{Checked}
use Rattle.refute_check.specs.Laws.{with_lines}
use Rattle.refute_check.specs.declared.lines.Line.{Line}
use Rattle.refute_check.specs.declared.lines.Refuted.{Refuted}
use Rattle.inv_cert.specs.declared.not_closed.NotClosed.{NotClosed}
use Rattle.inv_cert.specs.declared.not_closed.NotClosed.TheVariants as case
use Rattle.ja_project.specs.Latches.{is_foreign}
use Rattle.ja_project.specs.Start.{starts}
use Rattle.ja_project.specs.CodedClauses.{negated_next}
use Rattle.inv_cert.specs.Refusals.{proof_refusal}

-- the checker has these clauses alone
pub record IsLoaded (vars : ℕ) (clauses : List (List ℕ)) (checker : Checked) : Type 0 where
  pub vars_are : checker.vars ≡ vars
  pub list : checker.list ≡ clauses
  pub kept : checker.kept ≡ length clauses

-- the checker has the clauses, and behind them those of the lines
pub record HasTaken (vars : ℕ) (clauses : List (List ℕ)) (lines : List Line)
    (checker : Checked) : Type 0 where
  pub vars_are : checker.vars ≡ vars
  pub list : checker.list ≡ with_lines clauses lines
  pub kept : checker.kept ≡ length clauses

-- the checker has the clauses, and behind them lines alone
pub record HasLines (vars : ℕ) (clauses : List (List ℕ)) (checker : Checked) : Type 0 where
  pub vars_are : checker.vars ≡ vars
  pub lines : List (List ℕ)
  pub list : checker.list ≡ clauses ++ lines
  pub kept : checker.kept ≡ length clauses

-- the clauses came behind those that the checker had
pub record Loads (before : Checked) (clauses : List (List ℕ)) (after : Checked) : Type 0 where
  pub vars_are : after.vars ≡ before.vars
  pub list : after.list ≡ before.list ++ clauses
  pub kept : before.kept ≡ length before.list → after.kept ≡ length after.list

-- a line of the proof of this number is refused
abbrev pub line_refusal : ℕ → Option (ℕ × ℕ) → Option NotClosed
line_refusal number None = None
line_refusal number (Some refused) = Some (case.Line number refused.0 refused.1)

-- what is wrong with the candidate, whose checker has these clauses and whose proof is this, if it has one
abbrev pub refusal_by : VerificationTask → List (List ℕ) → ℕ → List ℕ → Option Refuted
    → Option NotClosed
refusal_by t clauses number clause proof =
    if is_foreign (circuit t.design) clause then Some (case.Foreign number) else
    if not (starts (circuit t.design) clause) then Some (case.Start number) else by_proof proof
  where
    by_proof : Option Refuted → Option NotClosed
    by_proof None = Some (case.Missing number)
    by_proof (Some proof) = proof_refusal number (t.design.vars + 1) clauses proof.lines
        (negated_next t.design clause)
