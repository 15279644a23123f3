-- What a sign-off promises of its report.
use Rattle.std.specs.Prelude.{◌≡◌, ℕ, true, Some, List, map, is_some, IsTrue}
use Rattle.ja_base.specs.Literals.{bit}
use Rattle.ja_base.specs.Budget.{sufficient_budget}
use Rattle.ja_base.specs.Circuit.{Problem}
use Rattle.ja_base.specs.Invariants.{Covers}
use Rattle.aig_model.specs.Task.{VerificationTask, problem}
use Rattle.store_core.specs.declared.journal.Opening.{Opening}
use Rattle.store_core.specs.declared.mark.Mark.TheVariants.{Fails}
use Rattle.store_core.specs.History.{IsLegalHistory, board_after}
use Rattle.store_core.specs.Marks.{AreJustified}
use Rattle.job_plan.specs.Plans.{IsPlan}
use Rattle.report.specs.Findings.{Findings, marks_of}
use Rattle.report.specs.Reports.{IsReport}
use Rattle.sign_task.specs.declared.terms.Terms.{Terms}
use Rattle.sign_task.specs.Openings.{evidence_of, opening_of}
use Rattle.sign_task.specs.Sections.{HasFace, HasFailures, HasInvariant, HasMark, HasProofs}
use Rattle.sign_task.specs.Joint.{HasSet, JoinsRightly}

-- The journal is one of a board, which ends with these marks and clauses. Under fail-fast a Cancel stands where an assumed
-- property fails.
pub record HasJournal (t : Problem) (o : Opening) (r : Findings) : Type 0 where
  pub legal : IsLegalHistory o r.journal
  pub marks : (board_after o r.journal).marks ≡ map Some (marks_of r.lines)
  pub clauses : (board_after o r.journal).clauses ≡ r.clauses
  pub stopped : o.fail_fast ≡ true → (p : ℕ) → bit t.assumed p ≡ true → HasMark r p Fails
      → IsTrue (is_some (board_after o r.journal).cancel)

-- each mark stands for its reason; a property is unknown only where its budget was spent or where it was given up
abbrev pub HasCauses : Problem → Opening → Findings → Type 0
HasCauses t o r =
    AreJustified (λ u clauses p. Covers u.circuit clauses p) sufficient_budget (evidence_of t o r)

-- what the report says is true of the task; nothing is said of how it was found
pub record IsRight (t : Problem) (r : Findings) : Type 0 where
  pub failures : HasFailures t r
  pub clauses : HasInvariant t r
  pub proofs : HasProofs t r
  pub joined : JoinsRightly t r
  pub set : HasSet t r

-- besides, its journal is one of a board with this opening, and each mark has its cause
pub record Certifies (t : Problem) (o : Opening) (r : Findings) : Type 0 where
  pub right : IsRight t r
  pub journal : HasJournal t o r
  pub unknown : HasCauses t o r

-- The report of a sign-off of the task on these terms: it is of its design and in form, and what it says is certified.
pub record IsSignOff (t : VerificationTask) (terms : Terms) (r : Findings) : Type 0 where
  pub plan : List ℕ
  pub plan_is : IsPlan (problem t) plan
  pub face : HasFace t.design t.expected terms.journal r
  pub form : IsReport r
  pub promises : Certifies (problem t) (opening_of t.expected plan terms) r
