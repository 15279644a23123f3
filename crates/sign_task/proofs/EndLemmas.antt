-- A board that is over, and the report that is made of what it leaves.
use Rattle.std.proofs.Common.{◌≡◌, ◌<◌, ◌↔◌, ℕ, Bool, true, Option, Some, List, [], length, map, sym, ap, subst, ◌∙◌, IsTrue}
use Rattle.std.specs.Prelude.{All, is_some}
use Rattle.std.specs.List.Sorted.{IsStrictlyIncreasing}
use Rattle.ja_base.specs.Budget.{sufficient_budget}
use Rattle.ja_base.specs.Circuit.{Problem}
use Rattle.aig_model.specs.Netlist.{IsSound}
use Rattle.aig_model.specs.Task.{VerificationTask, problem}
use Rattle.inv_cert.specs.Closed.{ClosedList, IsClosed}
use Rattle.local_stim.specs.Found.{FoundFailure}
use Rattle.store_core.specs.declared.journal.Opening.{Opening}
use Rattle.store_core.specs.declared.mark.Mark.{Mark}
use Rattle.store_core.specs.declared.mark.Mark.TheVariants.{Fails}
use Rattle.store_core.specs.Steps.{mark_of}
use Rattle.store_core.specs.Boards.{IsBoard}
use Rattle.debug_set.specs.FirstBreaks.{FirstBrokenIsNamed}
use Rattle.debug_set.specs.Verdicts.{IsDebuggingSet, IsJoined}
use Rattle.report.specs.declared.parts.PropStim.{PropStim}
use Rattle.report.specs.Findings.{Findings, marks_of, failing_from}
use Rattle.report.specs.Reports.{IsReport}
use Rattle.sign_task.specs.Assembly.{IsAssembled, IsOneOf, plain_failures}
use Rattle.sign_task.specs.Sections.{assumed_of, sizes_of}
use Rattle.sign_task.specs.Places.{AllHaveFailure}
use Rattle.sign_task.specs.SignOff.{Certifies, IsSignOff}
use Rattle.sign_task.specs.declared.terms.Terms.{Terms}
use Rattle.sign_task.specs.Openings.{opening_of}
use Rattle.sign_task.specs.Underway.{SignBoard, IsUnderway, IsHalted}
use Rattle.sign_task.proofs.MarkLemmas.{mark_is}
use Rattle.sign_task.proofs.PlaceLemmas.{all_within, failure_of}
use Rattle.sign_task.proofs.CertifyLemmas.{IsEnd, board_certifies, covering}
use Rattle.sign_task.proofs.FormLemmas.{in_form}

-- the board of the task, as its parts tell
pub record IsLeft (t : VerificationTask) (terms : Terms) (board : SignBoard) : Type 0 where
  pub underway : IsUnderway t terms board
  pub halted : IsHalted t board
  pub sound : IsBoard covering sufficient_budget (problem board.list.task) board.opening board.state
      (plain_failures board.failures) board.journal
  pub closed : IsClosed (problem board.list.task) board.list.clauses
  pub clauses : board.list.clauses ≡ board.state.clauses

board_of : (t : VerificationTask) (terms : Terms) (board : SignBoard) → IsLeft t terms board
    → IsBoard covering sufficient_budget (problem t) board.opening board.state (plain_failures board.failures) board.journal
board_of t terms board h = subst
    (λ (u : Problem). IsBoard covering sufficient_budget u board.opening board.state (plain_failures board.failures) board.journal)
    h.underway.task h.sound

closed_of : (t : VerificationTask) (terms : Terms) (board : SignBoard) → IsLeft t terms board → IsClosed (problem t) board.state.clauses
closed_of t terms board h = subst (IsClosed (problem t)) h.clauses
    (subst (λ (u : Problem). IsClosed u board.list.clauses) h.underway.task h.closed)

pub failures_within : (t : VerificationTask) (terms : Terms) (board : SignBoard) (ms : List Mark) → IsLeft t terms board
    → map Some ms ≡ board.state.marks → All (λ (f : FoundFailure). f.prop < length ms) board.failures
failures_within t terms board ms h is = all_within board.failures board.state.marks ms is h.sound.failures_fail

pub all_have_failure : (t : VerificationTask) (terms : Terms) (board : SignBoard) (ms : List Mark) → IsLeft t terms board
    → map Some ms ≡ board.state.marks → AllHaveFailure board.failures ms
all_have_failure t terms board ms h is p fail =
    let stands : mark_of board.state.marks p ≡ Some Fails =
    subst (λ (slots : List (Option Mark)). mark_of slots p ≡ Some Fails) is (mark_is ms p Fails fail) in
    let shown = (board_of t terms board h).justified p Fails stands in
    failure_of p board.failures shown.stimulus [] shown.only

end_of : (t : VerificationTask) (terms : Terms) (board : SignBoard) (r : Findings) → IsLeft t terms board → length t.expected ≡ length t.design.bads
    → IsAssembled t board.state.marks board.state.clauses (plain_failures board.failures) board.journal terms.journal r
    → IsEnd t board.opening board.state (plain_failures board.failures) board.journal terms.journal r
end_of t terms board r h long made = record {
  board = board_of t terms board h;
  inductive = (closed_of t terms board h).inductive;
  long = long;
  halted = λ p fast held fails. h.halted p fast held fails;
  made = made;
}

pub report_in_form : (t : VerificationTask) (terms : Terms) (board : SignBoard) (r : Findings) → IsLeft t terms board
    → length t.expected ≡ length t.design.bads
    → IsAssembled t board.state.marks board.state.clauses (plain_failures board.failures) board.journal terms.journal r
    → IsSound t.design → All IsStrictlyIncreasing r.clauses → IsReport r
report_in_form t terms board r h long made sound up =
    in_form t board.opening board.state (plain_failures board.failures) board.journal terms.journal r
    (end_of t terms board r h long made) sound (closed_of t terms board h).own up

pub signs_off : (t : VerificationTask) (terms : Terms) (board : SignBoard) (r : Findings) → IsLeft t terms board
    → length t.expected ≡ length t.design.bads
    → IsAssembled t board.state.marks board.state.clauses (plain_failures board.failures) board.journal terms.journal r
    → IsReport r → FirstBrokenIsNamed → IsSignOff t terms r
signs_off t terms board r h long made form law = record {
  plan = board.opening.plan;
  plan_is = h.underway.plan;
  face = record { sizes = made.sizes; lines = made.lines; shown_is = made.shown_is };
  form = form;
  promises = subst (λ (o : Opening). Certifies (problem t) o r) h.underway.opening
      (board_certifies t board.opening board.state (plain_failures board.failures) board.journal terms.journal r
      (end_of t terms board r h long made)
      law);
}

pub left_of : (t : VerificationTask) (terms : Terms) (board : SignBoard) (list : ClosedList) → IsUnderway t terms board
    → IsHalted t board
    → IsBoard covering sufficient_budget (problem board.list.task) board.opening board.state (plain_failures board.failures)
    board.journal
    → IsClosed (problem list.task) list.clauses → list ≡ board.list → board.list.clauses ≡ board.state.clauses → IsLeft t terms board
left_of t terms board list underway halted sound closed list_is clauses = record {
  underway = underway;
  halted = halted;
  sound = sound;
  closed = subst (λ (x : ClosedList). IsClosed (problem x.task) x.clauses) list_is closed;
  clauses = clauses;
}

-- the report as it is made, over the expectations, the marks and the failures that the parts were made of
pub record IsMade (t : VerificationTask) (terms : Terms) (board : SignBoard) (expected : List Bool) (ms : List Mark)
    (failures : List FoundFailure) (r : Findings) : Type 0 where
  pub expected_are : expected ≡ t.expected
  pub slots_are : map Some ms ≡ board.state.marks
  pub failures_are : failures ≡ board.failures
  pub sizes : r.sizes ≡ sizes_of t.design
  pub lines : assumed_of r.lines ≡ expected
  pub marks_are : marks_of r.lines ≡ ms
  pub clauses : r.clauses ≡ board.list.clauses
  pub one_each : map (λ (x : PropStim). x.prop) r.stimuli ≡ failing_from 0 ms
  pub among : All (IsOneOf (plain_failures failures)) r.stimuli
  pub joined : IsTrue r.joined ↔ IsJoined expected ms
  pub set : IsDebuggingSet expected ms r.set
  pub journal : r.journal ≡ board.journal
  pub shown_is : r.shown ≡ terms.journal

pub assembled : (t : VerificationTask) (terms : Terms) (board : SignBoard) (expected : List Bool) (ms : List Mark)
    (failures : List FoundFailure) (r : Findings) → IsLeft t terms board → IsMade t terms board expected ms failures r
    → IsAssembled t board.state.marks board.state.clauses (plain_failures board.failures) board.journal terms.journal r
assembled t terms board expected ms failures r left m = record {
  sizes = m.sizes;
  lines = m.lines ∙ m.expected_are;
  marks_are = ap (map Some) m.marks_are ∙ m.slots_are;
  clauses_are = m.clauses ∙ left.clauses;
  one_each = m.one_each ∙ ap (failing_from 0) (sym m.marks_are);
  among = subst (λ (fs : List FoundFailure). All (IsOneOf (plain_failures fs)) r.stimuli) m.failures_are m.among;
  joined = subst (λ (e : List Bool). IsTrue r.joined ↔ IsJoined e (marks_of r.lines)) m.expected_are
      (subst (λ (xs : List Mark). IsTrue r.joined ↔ IsJoined expected xs) (sym m.marks_are) m.joined);
  set = subst (λ (e : List Bool). IsDebuggingSet e (marks_of r.lines) r.set) m.expected_are
      (subst (λ (xs : List Mark). IsDebuggingSet expected xs r.set) (sym m.marks_are) m.set);
  journal_is = m.journal;
  shown_is = m.shown_is;
}
