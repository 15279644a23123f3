-- A board with a mark for each property, and the report that is made of it, give what a sign-off promises.
use Rattle.std.proofs.Common.{◌≡◌, ℕ, ◌+◌, ◌<◌, ⊎_elim, Bool, true, false, Option, Some, List, [], ◌∷◌, length, slice_get, get_or, refl, sym, ap, subst, ◌∙◌, arith, IsTrue}
use Rattle.std.specs.Prelude.{All, Contains, is_some}
use Rattle.std.proofs.lemmas.Bool.{cases_lt, false≢true}
use Rattle.std.proofs.lemmas.List.{get_or_past, length-map}
use Rattle.std.proofs.lemmas.Option.{slice_get-get_or}
use Rattle.std.proofs.lemmas.List.Elements.{All-contains, All-weaker, All-nil, All-cons, Contains-get_or}
use Rattle.ja_base.specs.Literals.{bit}
use Rattle.ja_base.specs.Budget.{sufficient_budget}
use Rattle.ja_base.specs.Circuit.{Problem}
use Rattle.ja_base.specs.Runs.{Trace, IsLocalFailure, FailsLocally}
use Rattle.ja_base.specs.Invariants.{Covers, CoversAll, IsInductive}
use Rattle.ja_base.specs.Failures.{Failure, IsShown}
use Rattle.aig_model.specs.Netlist.{circuit}
use Rattle.aig_model.specs.Task.{VerificationTask, problem}
use Rattle.inv_cert.proofs.InductionLemmas.{assumptions_discharge, reachable_meets, covered_never_fails, covered_never_breaks}
use Rattle.store_core.specs.declared.journal.Opening.{Opening}
use Rattle.store_core.specs.declared.journal.Entry.{Entry}
use Rattle.store_core.specs.declared.mark.Mark.{Mark}
use Rattle.store_core.specs.declared.mark.Mark.TheVariants.{Proved, Fails, Budget, Cancelled}
use Rattle.store_core.specs.MarkKinds.{fails}
use Rattle.store_core.specs.Steps.{State, mark_of}
use Rattle.store_core.specs.History.{IsLegalHistory, board_after}
use Rattle.store_core.specs.Boards.{IsBoard, evidence}
use Rattle.store_core.specs.Marks.{IsGivenUp, IsJustified}
use Rattle.debug_set.specs.FirstBreaks.{FirstBrokenIsNamed}
use Rattle.report.specs.declared.parts.PropStim.{PropStim}
use Rattle.report.specs.declared.parts.PropLine.{PropLine}
use Rattle.report.specs.Findings.{Findings, marks_of}
use Rattle.sign_task.specs.Openings.{evidence_of, failures_of}
use Rattle.sign_task.specs.Sections.{HasMark, HasProofs}
use Rattle.sign_task.specs.Joint.{AllKnown, HasSet, JoinsRightly}
use Rattle.sign_task.specs.SignOff.{Certifies, HasJournal}
use Rattle.sign_task.specs.Assembly.{IsAssembled, IsOneOf}
use Rattle.sign_task.proofs.MarkLemmas.{mark_is, mark_stands, bit_is, proved_mark, failing_mark}
use Rattle.sign_task.proofs.StimulusLemmas.{HasOne, has_one, stimulus_in}

-- the circuit and the clauses decide what is covered
abbrev pub covering : Problem → List (List ℕ) → ℕ → Type 0
covering u clauses p = Covers u.circuit clauses p

-- the board of a task that is over, and the report that is made of it
pub record IsEnd (t : VerificationTask) (o : Opening) (s : State) (failures : List Failure) (journal : List Entry) (shown : Bool)
    (r : Findings) : Type 0 where
  pub board : IsBoard covering sufficient_budget (problem t) o s failures journal
  pub inductive : IsInductive (circuit t.design) t.expected s.clauses
  pub long : length t.expected ≡ length t.design.bads
  pub halted : (p : ℕ) → o.fail_fast ≡ true → bit t.expected p ≡ true → mark_of s.marks p ≡ Some Fails
      → IsTrue (is_some s.cancel)
  pub made : IsAssembled t s.marks s.clauses failures journal shown r

All-one : {X : Type 0} (P : X → Type 0) (x : X) → P x → All P (x ∷ [])
All-one P x h = All-cons P x [] h (All-nil P)

module _ (t : VerificationTask) (o : Opening) (s : State) (failures : List Failure) (journal : List Entry) (shown : Bool)
    (r : Findings) (e : IsEnd t o s failures journal shown r) where
  abbrev marks : List Mark
  marks = marks_of r.lines

  justified : (p : ℕ) (m : Mark) → HasMark r p m
      → IsJustified covering sufficient_budget (evidence (problem t) o s failures journal) p m
  justified p m h = e.board.justified p m
      (subst (λ (ms : List (Option Mark)). mark_of ms p ≡ Some m) e.made.marks_are (mark_is marks p m h))

  proofs : HasProofs (problem t) r
  proofs p h = subst (λ (cs : List (List ℕ)). Covers (circuit t.design) cs p) (sym e.made.clauses_are) (justified p Proved h)

  inductive : IsInductive (circuit t.design) t.expected r.clauses
  inductive = subst (λ (cs : List (List ℕ)). IsInductive (circuit t.design) t.expected cs) (sym e.made.clauses_are) e.inductive

  -- the one failure of a property that fails
  shown_of : (p : ℕ) → HasMark r p Fails → IsShown (problem t) failures p
  shown_of p h = justified p Fails h

  one_local : (x : PropStim) → IsOneOf failures x → IsLocalFailure (problem t) x.prop x.stim
  one_local x is =
      let f : Failure = record { property = x.prop; stimulus = x.stim } in
      let fails = All-contains (λ (g : Failure). mark_of s.marks g.property ≡ Some Fails) failures f e.board.failures_fail is in
      let shown : IsShown (problem t) failures x.prop = e.board.justified x.prop Fails fails in
      let in_one = subst (λ (ms : List Trace). Contains ms x.stim) shown.only (stimulus_in failures f is) in
      All-contains (IsLocalFailure (problem t) x.prop) (shown.stimulus ∷ []) x.stim
      (All-one (IsLocalFailure (problem t) x.prop) shown.stimulus shown.fails) in_one

  pub all_local : All (λ (x : PropStim). IsLocalFailure (problem t) x.prop x.stim) r.stimuli
  all_local = All-weaker (IsOneOf failures) (λ (x : PropStim). IsLocalFailure (problem t) x.prop x.stim) one_local r.stimuli
      e.made.among

  never_fails : (p : ℕ) → HasMark r p Proved → FailsLocally (problem t) p → ⊥
  never_fails p h = covered_never_fails (problem t) r.clauses p inductive (proofs p h)

  width : length marks ≡ length t.expected
  width = length-map r.lines (λ (l : PropLine). l.mark) ∙ sym (length-map r.lines (λ (l : PropLine). l.assumed))
      ∙ ap length e.made.lines

  within : (p : ℕ) → bit t.expected p ≡ true → p < length marks
  within p held = ⊎_elim (λ lt. omega (arith, lt, width))
      (λ past. absurd (false≢true (sym (get_or_past t.expected p false past) ∙ held))) (cases_lt p (length t.expected))

  covers_all : IsTrue r.joined → CoversAll (circuit t.design) t.expected r.clauses
  covers_all joined p held = proofs p (proved_mark marks p (e.made.joined.0 joined p held))

  joins : JoinsRightly (problem t) r
  joins = record {
    exact = e.made.joined;
    discharged = λ joined. record {
      inductive = assumptions_discharge (circuit t.design) t.expected r.clauses inductive (covers_all joined);
      covers = covers_all joined;
      never = covered_never_breaks (circuit t.design) t.expected r.clauses inductive (covers_all joined);
    };
  }

  member_fails : (p : ℕ) → Contains r.set p → FailsLocally (problem t) p
  member_fails p h =
      let shown = shown_of p (failing_mark marks p ((e.made.set.members p).0 h).1) in (shown.stimulus, shown.fails)

  -- an assumed property that fails locally is in the set, where none is unknown
  named : AllKnown r → (p : ℕ) → bit t.expected p ≡ true → FailsLocally (problem t) p → Contains r.set p
  named known p held failure = by_mark (get_or marks p Proved) (slice_get-get_or marks p Proved (within p held))
    where
      by_mark : (m : Mark) → slice_get marks p ≡ Some m → Contains r.set p
      by_mark Proved h = absurd (never_fails p h failure)
      by_mark Fails h = (e.made.set.members p).1 (held, bit_is fails marks p Fails h)
      by_mark (Budget n) h = absurd (known p (record { mark = Budget n; stands = h; unknown = refl }))
      by_mark Cancelled h = absurd (known p (record { mark = Cancelled; stands = h; unknown = refl }))

  set_of : FirstBrokenIsNamed → HasSet (problem t) r
  set_of law = record {
    is_set = e.made.set;
    fail = λ k d lt. member_fails (get_or r.set k d) (Contains-get_or r.set k d lt);
    hold = never_fails;
    exact = λ known p held. (member_fails p, named known p held);
    first = law (problem t) marks r.set width never_fails e.made.set;
  }

  journal_of : HasJournal (problem t) o r
  journal_of = record {
    legal = subst (IsLegalHistory o) (sym e.made.journal_is) e.board.legal;
    marks = ap (λ (j : List Entry). (board_after o j).marks) e.made.journal_is ∙ ap (λ (x : State). x.marks) e.board.state_is
        ∙ sym e.made.marks_are;
    clauses = ap (λ (j : List Entry). (board_after o j).clauses) e.made.journal_is
        ∙ ap (λ (x : State). x.clauses) e.board.state_is ∙ sym e.made.clauses_are;
    stopped = λ fast p held h.
        subst (λ (x : State). IsTrue (is_some x.cancel)) (sym (ap (board_after o) e.made.journal_is ∙ e.board.state_is))
        (e.halted p fast held (subst (λ (ms : List (Option Mark)). mark_of ms p ≡ Some Fails) e.made.marks_are
        (mark_is marks p Fails h)));
  }

  still_shown : (p : ℕ) → HasMark r p Fails → IsShown (problem t) (failures_of r) p
  still_shown p h =
      let zero_plus : 0 + p ≡ p = omega arith in
      let one : HasOne p r.stimuli = subst (λ q. HasOne q r.stimuli) zero_plus (has_one p 0 marks r.stimuli e.made.one_each h) in
      let fails = All-contains (λ (x : PropStim). IsLocalFailure (problem t) x.prop x.stim) r.stimuli one.one all_local one.in_list in
      record {
        stimulus = one.one.stim;
        only = one.only;
        fails = subst (λ (q : ℕ). IsLocalFailure (problem t) q one.one.stim) one.prop_is fails;
      }

  still_given_up : (p : ℕ) → IsGivenUp (evidence (problem t) o s failures journal) p → IsGivenUp (evidence_of (problem t) o r) p
  still_given_up p h = record {
    before = h.before;
    entry = h.entry;
    after = h.after;
    journal_is = e.made.journal_is ∙ h.journal_is;
    event_is = h.event_is;
    reply_is = h.reply_is;
    cause = h.cause;
    cancel = h.cancel;
    assumed = h.assumed;
    fails = subst (λ (ms : List (Option Mark)). mark_of ms h.cause ≡ Some Fails) (sym e.made.marks_are) h.fails;
  }

  cause_of : (p : ℕ) (m : Mark) → HasMark r p m → IsJustified covering sufficient_budget (evidence_of (problem t) o r) p m
  cause_of p Proved h = proofs p h
  cause_of p Fails h = still_shown p h
  cause_of p (Budget n) h = let spent = justified p (Budget n) h in record { limit = spent.limit }
  cause_of p Cancelled h = still_given_up p (justified p Cancelled h)

  pub board_certifies : FirstBrokenIsNamed → Certifies (problem t) o r
  board_certifies law = record {
    right = record {
      failures = record { one_each = e.made.one_each; local = all_local };
      clauses = record {
        inductive = inductive;
        reached = λ state. reachable_meets (problem t) r.clauses state inductive;
      };
      proofs = proofs;
      joined = joins;
      set = set_of law;
    };
    journal = journal_of;
    unknown = λ p m h. cause_of p m (mark_stands marks p m h);
  }
