-- The report that is made of what a board leaves.
use Rattle.std.specs.Prelude.{◌≡◌, ◌↔◌, ℕ, Bool, Option, Some, List, map, All, Contains, IsTrue}
use Rattle.aig_model.specs.Task.{VerificationTask}
use Rattle.ja_base.specs.Failures.{Failure}
use Rattle.local_stim.specs.Found.{FoundFailure}
use Rattle.store_core.specs.declared.journal.Entry.{Entry}
use Rattle.store_core.specs.declared.mark.Mark.{Mark}
use Rattle.debug_set.specs.Verdicts.{IsDebuggingSet, IsJoined}
use Rattle.report.specs.declared.parts.PropStim.{PropStim}
use Rattle.report.specs.Findings.{Findings, marks_of, failing_from}
use Rattle.sign_task.specs.Sections.{assumed_of, sizes_of}

-- the stimulus is that of one of the failures, which is of its property
abbrev pub IsOneOf : List Failure → PropStim → Type 0
IsOneOf failures x = Contains failures (record { property = x.prop; stimulus = x.stim })

-- the failures as plain data
abbrev pub plain_failures : List FoundFailure → List Failure
plain_failures failures =
    map (λ (f : FoundFailure). record { property = f.prop; stimulus = f.stim }) failures

-- Each section is made of the marks, the clauses, the failures and the journal of the board; the journal is shown or not.
pub record IsAssembled (t : VerificationTask) (marks : List (Option Mark)) (clauses : List (List ℕ))
    (failures : List Failure) (journal : List Entry) (shown : Bool) (r : Findings) : Type 0 where
  pub sizes : r.sizes ≡ sizes_of t.design
  pub lines : assumed_of r.lines ≡ t.expected
  pub marks_are : map Some (marks_of r.lines) ≡ marks
  pub clauses_are : r.clauses ≡ clauses
  pub one_each : map (λ (x : PropStim). x.prop) r.stimuli ≡ failing_from 0 (marks_of r.lines)
  pub among : All (IsOneOf failures) r.stimuli
  pub joined : IsTrue r.joined ↔ IsJoined t.expected (marks_of r.lines)
  pub set : IsDebuggingSet t.expected (marks_of r.lines) r.set
  pub journal_is : r.journal ≡ journal
  pub shown_is : r.shown ≡ shown
