-- Under fail-fast a Cancel stands where a property that is expected to hold fails.
use Rattle.std.proofs.Common.{◌≡◌, ℕ, ◌+◌, ◌<◌, ◌≤◌, ◌&&◌, inl, inr, Bool, true, false, Option, Some, None, List, length, refl, sym, ap, subst, ◌∙◌, arith}
use Rattle.std.specs.Prelude.{slice_set, is_none, is_some, IsSome, IsTrue}
use Rattle.std.proofs.lemmas.Bool.{cases_eq, cases_lt, false≢true}
use Rattle.std.proofs.lemmas.Option.{none-some, same_Some}
use Rattle.std.proofs.lemmas.List.{get_or_past, get_or-set_other, length-set}
use Rattle.ja_base.specs.Circuit.{Problem}
use Rattle.ja_base.specs.Literals.{bit}
use Rattle.aig_model.specs.Task.{VerificationTask, problem}
use Rattle.inv_cert.specs.Closed.{ClosedList}
use Rattle.local_stim.specs.Found.{FoundFailure}
use Rattle.store_core.specs.declared.answers.Judged.{Judged}
use Rattle.store_core.specs.declared.journal.Opening.{Opening}
use Rattle.store_core.specs.declared.journal.Event.TheVariants.{Cancel, GiveUp}
use Rattle.store_core.specs.declared.journal.Reply.{Reply}
use Rattle.store_core.specs.declared.mark.Mark.{Mark}
use Rattle.store_core.specs.declared.mark.Mark.TheVariants as mark
use Rattle.store_core.specs.MarkKinds.{is_failing}
use Rattle.store_core.specs.Steps.{State, mark_of, can_cancel, cancelled, given_up, give_up_reply}
use Rattle.store_core.specs.Boards.{Did}
use Rattle.store_core.specs.Judged.{settle_event}
use Rattle.store_core.proofs.NextBoards.{mark_set, mark_stays}
use Rattle.sign_task.specs.declared.terms.Terms.{Terms}
use Rattle.job_plan.specs.Plans.{IsPlan}
use Rattle.sign_task.specs.Openings.{opening_of}
use Rattle.sign_task.specs.Replies.{is_gave_up}
use Rattle.sign_task.specs.Underway.{SignBoard, IsUnderway, IsStopped, IsHaltedAt, IsHalted, IsMarked, AreMarked, Keeps, KeepsMarks}
use Rattle.sign_task.proofs.JudgementLemmas.{judged_settles, keeps_itself, keeps_more}

abbrev task_of : ClosedList → Problem
task_of list = problem list.task

-- ---- a Cancel

-- what asking for a Cancel leaves of the state
record Asks (s next : State) : Type 0 where
  place : next.place ≡ s.place
  marks : next.marks ≡ s.marks
  stopped : IsTrue (is_some s.cancel) → IsTrue (is_some next.cancel)

asks : (b : Bool) (s : State) (p : ℕ) → Asks s (cancelled b s p)
asks true s p = record { place = refl; marks = refl; stopped = λ h. refl }
asks false s p = record { place = refl; marks = refl; stopped = λ h. h }

pub cancel_keeps : (p : ℕ) (before after : SignBoard) → Did task_of before after 0 (Cancel p) → KeepsMarks before after
cancel_keeps p before after did =
    let a = subst (Asks before.state) (sym did.state_is) (asks (can_cancel before.opening before.state p) before.state p) in
    record {
      keeps = record {
        opening = did.opening_is;
        task = did.task_is;
        place = a.place;
        width = ap length a.marks;
        stay = λ q h. subst (λ (ms : List (Option Mark)). IsSome (mark_of ms q)) (sym a.marks) h;
        stopped = a.stopped;
      };
      marks = a.marks;
    }

-- the first Cancel stands, or one stood
cancel_stands : (fast assumed : Bool) (m : Option Mark) (c : Option ℕ) (s : State) (p : ℕ) → fast ≡ true → assumed ≡ true
    → m ≡ Some mark.Fails → c ≡ s.cancel
    → IsTrue (is_some (cancelled (fast && assumed && is_failing m && is_none c) s p).cancel)
cancel_stands fast assumed m None s p f a fails is =
    let asked : (fast && assumed && is_failing m && true) ≡ true =
    ap (λ (b : Bool). b && assumed && is_failing m && true) f ∙ ap (λ (b : Bool). true && b && is_failing m && true) a
    ∙ ap (λ (o : Option Mark). true && true && is_failing o && true) fails in
    subst (λ (b : Bool). IsTrue (is_some (cancelled b s p).cancel)) (sym asked) refl
cancel_stands fast assumed m (Some q) s p f a fails is =
    let stands : IsTrue (is_some s.cancel) = subst (λ (c : Option ℕ). IsTrue (is_some c)) is refl in
    (asks (fast && assumed && is_failing m && false) s p).stopped stands

expected_is : (t : VerificationTask) (terms : Terms) (board : SignBoard) → IsUnderway t terms board
    → board.opening.assumed ≡ t.expected
expected_is t terms board h = ap (λ (o : Opening). o.assumed) h.opening

pub cancel_halts : (t : VerificationTask) (terms : Terms) (p : ℕ) (before after : SignBoard) → IsUnderway t terms before
    → Did task_of before after 0 (Cancel p) → IsHaltedAt t after p
cancel_halts t terms p before after h did fast held fails =
    let kept = cancel_keeps p before after did in
    subst (λ (s : State). IsTrue (is_some s.cancel)) (sym did.state_is)
    (cancel_stands before.opening.fail_fast (bit before.opening.assumed p) (mark_of before.state.marks p) before.state.cancel
    before.state p
    (ap (λ (o : Opening). o.fail_fast) (sym did.opening_is) ∙ fast)
    (ap (λ (xs : List Bool). bit xs p) (expected_is t terms before h) ∙ held)
    (ap (λ (ms : List (Option Mark)). mark_of ms p) (sym kept.marks) ∙ fails) refl)

-- nothing is to be done where it is not asked for
pub halts_not : (t : VerificationTask) (terms : Terms) (p : ℕ) (board : SignBoard) → IsUnderway t terms board
    → (terms.fail_fast ≡ true → bit t.expected p ≡ true → mark_of board.state.marks p ≡ Some mark.Fails → ⊥)
    → IsHaltedAt t board p
halts_not t terms p board h not fast held fails =
    absurd (not (ap (λ (o : Opening). o.fail_fast) (sym h.opening) ∙ fast) held fails)

-- ---- what stays

pub marks_itself : (a : SignBoard) → KeepsMarks a a
marks_itself a = record { keeps = keeps_itself a; marks = refl }

pub marks_more : (a b c : SignBoard) → KeepsMarks a b → KeepsMarks b c → KeepsMarks a c
marks_more a b c first second = record {
  keeps = keeps_more a b c first.keeps second.keeps;
  marks = second.marks ∙ first.marks;
}

pub still_halted_at : (t : VerificationTask) (before after : SignBoard) (p : ℕ) → KeepsMarks before after → IsHaltedAt t before p
    → IsHaltedAt t after p
still_halted_at t before after p kept h fast held fails =
    kept.keeps.stopped (h (ap (λ (o : Opening). o.fail_fast) (sym kept.keeps.opening) ∙ fast) held
    (ap (λ (ms : List (Option Mark)). mark_of ms p) (sym kept.marks) ∙ fails))

-- of a property that is not one of the task nothing is asked
pub halted_below : (t : VerificationTask) (board : SignBoard) → length t.expected ≡ length t.design.bads
    → ((p : ℕ) → p < length t.design.bads → IsHaltedAt t board p) → IsHalted t board
halted_below t board long below p fast held fails =
    elim (cases_lt p (length t.expected)) [
      | inl lt ↦ below p (omega (arith, lt, long)) fast held fails
      | inr past ↦ absurd (false≢true (sym (get_or_past t.expected p false past) ∙ held))
    ]

pub halted_up_to : (t : VerificationTask) (before after : SignBoard) (n : ℕ)
    → ((p : ℕ) → p < n → IsHaltedAt t before p) → KeepsMarks before after → IsHaltedAt t after n
    → (p : ℕ) → p < n + 1 → IsHaltedAt t after p
halted_up_to t before after n below kept here p lt =
    elim (cases_eq p n) [
      | inl e ↦ subst (IsHaltedAt t after) (sym e) here
      | inr other ↦ still_halted_at t before after p kept (below p (omega (arith, lt, not_n other)))
    ]
  where
    not_n : (p ≡ n → ⊥) → p < n
    not_n other =
        elim (cases_lt p n) [
          | inl less ↦ less
          | inr past ↦ absurd (other (omega (arith, past, lt)))
        ]

-- one mark came, and no Cancel went
halted_beside : (t : VerificationTask) (before after : SignBoard) (p : ℕ) → IsHalted t before → after.opening ≡ before.opening
    → ((q : ℕ) → (q ≡ p → ⊥) → mark_of after.state.marks q ≡ mark_of before.state.marks q)
    → (IsStopped before → IsStopped after) → IsHaltedAt t after p → IsHalted t after
halted_beside t before after p was opening others stopped here q fast held fails =
    elim (cases_eq q p) [
      | inl e ↦ here fast (subst (λ (x : ℕ). bit t.expected x ≡ true) e held)
          (subst (λ (x : ℕ). mark_of after.state.marks x ≡ Some mark.Fails) e fails)
      | inr other ↦ stopped (was q (ap (λ (o : Opening). o.fail_fast) (sym opening) ∙ fast) held (sym (others q other) ∙ fails))
    ]

pub settled_halted : (t : VerificationTask) (p : ℕ) (before mid after : SignBoard) (j : Judged ClosedList FoundFailure)
    → p < length before.state.marks → IsHalted t before
    → Did task_of before mid 0 (settle_event (λ (l : ClosedList). l.clauses) p j) → KeepsMarks mid after → IsHaltedAt t after p
    → IsHalted t after
settled_halted t p before mid after j within was did kept here =
    let s = judged_settles p before mid j within did in
    halted_beside t before after p was (kept.keeps.opening ∙ did.opening_is)
    (λ q other. ap (λ (ms : List (Option Mark)). mark_of ms q) kept.marks ∙ s.others q other)
    (λ h. kept.keeps.stopped (subst (λ (c : Option ℕ). IsTrue (is_some c)) (sym s.cancel) h)) here

-- ---- a property that is given up

record GivesUp (p : ℕ) (s next : State) (reply : Reply) : Type 0 where
  place : next.place ≡ s.place
  cancel : next.cancel ≡ s.cancel
  width : length next.marks ≡ length s.marks
  others : (q : ℕ) → (q ≡ p → ⊥) → mark_of next.marks q ≡ mark_of s.marks q
  unfailing : mark_of next.marks p ≡ Some mark.Fails → ⊥
  marked : is_gave_up reply ≡ true → IsSome (mark_of next.marks p)

gives_up : (p : ℕ) (s : State) (m : Option Mark) (c : Option ℕ) → m ≡ None → mark_of s.marks p ≡ None → p < length s.marks
    → GivesUp p s (given_up m c s p) (give_up_reply m c)
gives_up p s (Some had) c none free within = absurd (none-some had (sym none))
gives_up p s None None none free within = record {
  place = refl;
  cancel = refl;
  width = refl;
  others = λ q other. refl;
  unfailing = λ fails. none-some mark.Fails (sym free ∙ fails);
  marked = λ e. absurd (false≢true e);
}
gives_up p s None (Some q) none free within = record {
  place = refl;
  cancel = refl;
  width = length-set s.marks p (Some mark.Cancelled);
  others = λ x other. get_or-set_other s.marks p x (Some mark.Cancelled) None other;
  unfailing = λ fails. not_both (same_Some mark.Cancelled mark.Fails (sym (mark_set s.marks p mark.Cancelled within) ∙ fails));
  marked = λ e. ap is_some (mark_set s.marks p mark.Cancelled within);
}
  where
    not_both : mark.Cancelled ≡ mark.Fails → ⊥
    not_both e = false≢true (ap (λ (m : Mark). is_failing (Some m)) e)

module _ (t : VerificationTask) (p : ℕ) (before after : SignBoard) (reply : Reply) (free : mark_of before.state.marks p ≡ None)
    (within : p < length before.state.marks) (did : Did task_of before after 0 (GiveUp p))
    (reply_is : reply ≡ give_up_reply (mark_of before.state.marks p) before.state.cancel) where
  gone : GivesUp p before.state after.state reply
  gone =
      let P : State → Type 0 = λ next. GivesUp p before.state next reply in
      let Q : Reply → Type 0 = λ r. GivesUp p before.state
      (given_up (mark_of before.state.marks p) before.state.cancel before.state p) r in
      subst P (sym did.state_is) (subst Q (sym reply_is)
      (gives_up p before.state (mark_of before.state.marks p) before.state.cancel free free within))

  pub giving_up_keeps : Keeps before after
  giving_up_keeps = record {
    opening = did.opening_is;
    task = did.task_is;
    place = gone.place;
    width = gone.width;
    stay = stays;
    stopped = λ h. subst (λ (c : Option ℕ). IsTrue (is_some c)) (sym gone.cancel) h;
  }
    where
      stays : (q : ℕ) → IsMarked before q → IsMarked after q
      stays q h =
          elim (cases_eq q p) [
            | inl e ↦ absurd (false≢true (ap is_some (sym free) ∙ subst (λ (x : ℕ). IsSome (mark_of before.state.marks x)) e h))
            | inr other ↦ subst (λ (m : Option Mark). IsSome m) (sym (gone.others q other)) h
          ]

  pub giving_up_halts : IsHalted t before → IsHalted t after
  giving_up_halts was = halted_beside t before after p was did.opening_is gone.others giving_up_keeps.stopped
      (λ fast held fails. absurd (gone.unfailing fails))

  pub giving_up_marks : is_gave_up reply ≡ true → IsMarked after p
  giving_up_marks = gone.marked

-- ---- marks below n

pub marked_up_to : (before after : SignBoard) (n : ℕ) → AreMarked before n → Keeps before after → IsMarked after n
    → AreMarked after (n + 1)
marked_up_to before after n below keeps here p lt =
    elim (cases_eq p n) [
      | inl e ↦ subst (IsMarked after) (sym e) here
      | inr other ↦ keeps.stay p (below p (not_n other))
    ]
  where
    not_n : (p ≡ n → ⊥) → p < n
    not_n other =
        elim (cases_lt p n) [
          | inl less ↦ less
          | inr past ↦ absurd (other (omega (arith, past, lt)))
        ]

-- ---- a board that comes back from its desk

pub returned_underway : (t : VerificationTask) (terms : Terms) (before after : SignBoard) → IsUnderway t terms before
    → after.opening ≡ before.opening → problem after.list.task ≡ problem before.list.task
    → length after.state.marks ≡ length (problem after.list.task).circuit.bads → IsUnderway t terms after
returned_underway t terms before after h opening task width = record {
  plan = subst (λ (o : Opening). IsPlan (problem t) o.plan) (sym opening) h.plan;
  opening = subst (λ (o : Opening). o ≡ opening_of t.expected o.plan terms) (sym opening) h.opening;
  task = task ∙ h.task;
  width = width ∙ ap (λ (u : Problem). length u.circuit.bads) (task ∙ h.task);
}

pub marked_more : (board : SignBoard) (n : ℕ) → AreMarked board n → IsMarked board n → AreMarked board (n + 1)
marked_more board n below here = marked_up_to board board n below (keeps_itself board) here
