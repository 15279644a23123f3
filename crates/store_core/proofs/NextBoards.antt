-- A board behind one more event.
use Rattle.std.proofs.Common.{◌≡◌, ◌≢◌, ℕ, ◌<◌, ◌⊎◌, inl, inr, ◌==◌, true, false, cond, List, [], ◌∷◌, ◌++◌, Option, Some, None, get_or, length, map, refl, sym, ◌∙◌, ap, subst, arith}
use Rattle.std.specs.Prelude.{All, Contains, slice_set}
use Rattle.std.specs.List.{filter}
use Rattle.std.proofs.lemmas.Bool.{cases_eq}
use Rattle.std.proofs.lemmas.Bool.Decides.{nat_tests}
use Rattle.std.proofs.lemmas.List.{get_or-set_same, get_or-set_other, length-set, map-append, append-nil}
use Rattle.std.proofs.lemmas.List.Elements.{filter-append, All-head, All-tail, All-push}
use Rattle.std.proofs.lemmas.Option.{none-some, same_Some}
use Rattle.ja_base.specs.Circuit.{Problem}
use Rattle.ja_base.specs.Failures.{Failure, stimuli_of, IsShown}
use Rattle.ja_base.specs.Runs.{Trace, IsLocalFailure}
use Rattle.store_core.specs.declared.journal.Opening.{Opening}
use Rattle.store_core.specs.declared.journal.Entry.{Entry}
use Rattle.store_core.specs.declared.journal.Event.{Event}
use Rattle.store_core.specs.declared.mark.Mark.{Mark}
use Rattle.store_core.specs.declared.mark.Mark.TheVariants.{Fails}
use Rattle.store_core.specs.Steps.{State, kept, opened, mark_of, state_after}
use Rattle.store_core.specs.History.{IsEntry, IsLegalHistory, board_after, entry_of}
use Rattle.store_core.specs.Marks.{IsJustified, AreJustified}
use Rattle.store_core.specs.Boards.{IsBoard, IsStopped, AsksWithin, evidence, failed_by}
use Rattle.store_core.proofs.Histories.{behind_push, legal_push, failed_push, entry_is}
use Rattle.store_core.proofs.Reasons.{Grows, KeepFails, KeepsShown, cancel_later, justified_later}

-- what an event has to show of its state and failures, where its entry is the last of the journal
pub record IsNext (covers : Problem → List (List ℕ) → ℕ
    → Type 0) (bound : Problem → ℕ) (t : Problem) (o : Opening) (s next : State)
    (failures more : List Failure) (journal : List Entry) (entry : Entry) : Type 0 where
  pub width : length next.marks ≡ length s.marks
  pub justified : AreJustified covers bound (evidence t o next more (journal ++ entry ∷ []))
  pub stopped : (q : ℕ) → next.cancel ≡ Some q → IsStopped o next (journal ++ entry ∷ []) q
  pub failures_are : map (λ (f : Failure). f.property) more ≡ map (λ (f : Failure). f.property) failures
      ++ failed_by entry.event entry.reply
  pub failures_fail : All (λ (f : Failure). mark_of next.marks f.property ≡ Some Fails) more

module _ (covers : Problem → List (List ℕ) → ℕ → Type 0) (bound : Problem → ℕ) (t : Problem) (o : Opening) (s : State)
    (failures : List Failure) (journal : List Entry) (seat : ℕ) (event : Event)
    (b : IsBoard covers bound t o s failures journal) where
  abbrev entry : Entry
  entry = entry_of o s seat event

  legal_next : IsLegalHistory o (journal ++ entry ∷ [])
  legal_next =
      let P : State → Type 0 = λ behind. IsEntry o behind entry in
      legal_push o (opened o) journal entry b.legal (subst P (sym b.state_is) (entry_is o s seat event))

  state_next : board_after o (journal ++ entry ∷ []) ≡ state_after o s (kept s event)
  state_next = behind_push o (opened o) journal entry ∙ ap (λ behind. state_after o behind (kept s event)) b.state_is

  pub next_board : (more : List Failure) → AsksWithin (length o.assumed) entry → IsNext covers bound t o s (state_after o s (kept s event)) failures more journal entry
      → IsBoard covers bound t o (state_after o s (kept s event)) more (journal ++ entry ∷ [])
  next_board more asks h = record {
    opens = b.opens;
    legal = legal_next;
    state_is = state_next;
    asks = All-push (AsksWithin (length o.assumed)) journal entry b.asks asks;
    width = h.width ∙ b.width;
    justified = h.justified;
    stopped = h.stopped;
    failures_are =
        h.failures_are ∙ ap (λ (ps : List ℕ). ps ++ failed_by entry.event entry.reply) b.failures_are
        ∙ sym (failed_push journal entry);
    failures_fail = h.failures_fail;
  }

-- ---- events that set no mark

stopped_later : (o : Opening) (s next : State) (journal : List Entry) (entry : Entry) (q : ℕ) → next.marks ≡ s.marks
    → IsStopped o s journal q → IsStopped o next (journal ++ entry ∷ []) q
stopped_later o s next journal entry q same h = record {
  cancel = cancel_later journal q entry h.cancel;
  assumed = h.assumed;
  fails = ap (λ marks. mark_of marks q) same ∙ h.fails;
}

pub unmarked : (covers : Problem → List (List ℕ) → ℕ → Type 0) (bound : Problem → ℕ) → Grows covers → (t : Problem) (o : Opening)
    (s next : State) (failures : List Failure) (journal : List Entry) (entry : Entry)
    → IsBoard covers bound t o s failures journal
    → next.marks ≡ s.marks → All (Contains next.clauses) s.clauses
    → ((q : ℕ) → next.cancel ≡ Some q → (s.cancel ≡ Some q) ⊎ IsStopped o next (journal ++ entry ∷ []) q)
    → failed_by entry.event entry.reply ≡ [] → IsNext covers bound t o s next failures failures journal entry
unmarked covers bound grows t o s next failures journal entry b same part cancel none_fails = record {
  width = ap length same;
  justified = λ p m marked.
      let old : mark_of s.marks p ≡ Some m = ap (λ marks. mark_of marks p) (sym same) ∙ marked in
      let keeps : KeepFails s.marks next.marks = λ q h. ap (λ marks. mark_of marks q) same ∙ h in
      justified_later covers bound grows (evidence t o s failures journal) next.clauses failures next.marks entry part keeps p
      (λ h. h) m
      (b.justified p m old);
  stopped = λ q stands.
      elim (cancel q stands) [
        | inl was ↦ stopped_later o s next journal entry q same (b.stopped q was)
        | inr new ↦ new
      ];
  failures_are = sym (append-nil _) ∙ ap (λ (ps : List ℕ). map (λ (f : Failure). f.property) failures ++ ps) (sym none_fails);
  failures_fail = λ k d h. ap (λ marks. mark_of marks (get_or failures k d).property) same ∙ b.failures_fail k d h;
}

-- ---- events that set a mark

pub mark_set : (marks : List (Option Mark)) (p : ℕ) (m : Mark) → p < length marks
    → mark_of (slice_set marks p (Some m)) p ≡ Some m
mark_set marks p m within = get_or-set_same marks p (Some m) None within

pub mark_stays : (marks : List (Option Mark)) (p q : ℕ) (m had : Mark) → mark_of marks p ≡ None → mark_of marks q ≡ Some had
    → mark_of (slice_set marks p (Some m)) q ≡ Some had
mark_stays marks p q m had free stands =
    let other : q ≢ p = λ e. none-some had (sym free ∙ ap (λ x. mark_of marks x) (sym e) ∙ stands) in
    get_or-set_other marks p q (Some m) None other ∙ stands

-- no failure is of a property that has no mark
pub none_of_free : (marks : List (Option Mark)) (failures : List Failure) (p : ℕ)
    → All (λ (f : Failure). mark_of marks f.property ≡ Some Fails) failures → mark_of marks p ≡ None → stimuli_of p failures ≡ []
none_of_free marks [] p fail free = refl
none_of_free marks (f ∷ fs) p fail free =
    let here : mark_of marks f.property ≡ Some Fails =
    All-head (λ (f : Failure). mark_of marks f.property ≡ Some Fails) f fs fail in
    let later = none_of_free marks fs p (All-tail (λ (f : Failure). mark_of marks f.property ≡ Some Fails) f fs fail) free in
    let other : f.property ≢ p = λ e. none-some Fails (sym free ∙ ap (λ x. mark_of marks x) (sym e) ∙ here) in
    let test : (f.property == p) ≡ false = grind (arith, nat_tests) in
    ap (λ keeps. map (λ (g : Failure). g.stimulus)
    (cond keeps (f ∷ filter (λ (g : Failure). g.property == p) fs) (filter (λ (g : Failure). g.property == p) fs))) test
    ∙ later

pub stimuli_push : (failures : List Failure) (f : Failure) (p : ℕ)
    → stimuli_of p (failures ++ f ∷ []) ≡ stimuli_of p failures ++ stimuli_of p (f ∷ [])
stimuli_push failures f p =
    ap (map (λ (g : Failure). g.stimulus)) (filter-append (λ (g : Failure). g.property == p) failures (f ∷ []))
    ∙ map-append (λ (g : Failure). g.stimulus) (filter (λ (g : Failure). g.property == p) failures)
    (filter (λ (g : Failure). g.property == p) (f ∷ []))

stimuli_of_one : (f : Failure) (p : ℕ) → f.property ≡ p → stimuli_of p (f ∷ []) ≡ f.stimulus ∷ []
stimuli_of_one f p e =
    let test : (f.property == p) ≡ true = grind (arith, nat_tests) in
    ap (λ keeps. map (λ (g : Failure). g.stimulus) (cond keeps (f ∷ []) [])) test

stimuli_of_other : (f : Failure) (p : ℕ) → f.property ≢ p → stimuli_of p (f ∷ []) ≡ []
stimuli_of_other f p other =
    let test : (f.property == p) ≡ false = grind (arith, nat_tests) in
    ap (λ keeps. map (λ (g : Failure). g.stimulus) (cond keeps (f ∷ []) [])) test

-- one more failure, of a property that had none
pub shown_new : (t : Problem) (failures : List Failure) (f : Failure) → stimuli_of f.property failures ≡ []
    → IsLocalFailure t f.property f.stimulus → IsShown t (failures ++ f ∷ []) f.property
shown_new t failures f free fails = record {
  stimulus = f.stimulus;
  only =
      stimuli_push failures f f.property ∙ ap (λ (ms : List Trace). ms ++ stimuli_of f.property (f ∷ [])) free
      ∙ stimuli_of_one f f.property refl;
  fails = fails;
}

pub shown_later : (t : Problem) (failures : List Failure) (f : Failure) (p : ℕ) → f.property ≢ p → IsShown t failures p
    → IsShown t (failures ++ f ∷ []) p
shown_later t failures f p other h = record {
  stimulus = h.stimulus;
  only =
      stimuli_push failures f p ∙ ap (λ (ms : List Trace). stimuli_of p failures ++ ms) (stimuli_of_other f p other)
      ∙ append-nil (stimuli_of p failures) ∙ h.only;
  fails = h.fails;
}

-- the failures that there were are failures of properties that still have this mark
pub fail_later : (marks : List (Option Mark)) (failures : List Failure) (p : ℕ) (m : Mark) → mark_of marks p ≡ None
    → All (λ (f : Failure). mark_of marks f.property ≡ Some Fails) failures
    → All (λ (f : Failure). mark_of (slice_set marks p (Some m)) f.property ≡ Some Fails) failures
fail_later marks failures p m free fail k d h = mark_stays marks p (get_or failures k d).property m Fails free (fail k d h)

-- what an event shows that gives this mark to a property that had none
pub record IsMarked (covers : Problem → List (List ℕ) → ℕ
    → Type 0) (bound : Problem → ℕ) (t : Problem) (o : Opening) (s next : State)
    (failures more : List Failure) (journal : List Entry) (entry : Entry) (p : ℕ) (m : Mark) : Type 0 where
  pub within : p < length s.marks
  pub free : mark_of s.marks p ≡ None
  pub marks_are : next.marks ≡ slice_set s.marks p (Some m)
  pub cancel_is : next.cancel ≡ s.cancel
  pub part : All (Contains next.clauses) s.clauses
  pub keeps : (q : ℕ) → (p ≡ q → ⊥) → KeepsShown t failures more q
  pub here : IsJustified covers bound (evidence t o next more (journal ++ entry ∷ [])) p m
  pub are : map (λ (f : Failure). f.property) more ≡ map (λ (f : Failure). f.property) failures
      ++ failed_by entry.event entry.reply
  pub fail : All (λ (f : Failure). mark_of (slice_set s.marks p (Some m)) f.property ≡ Some Fails) more

module _ (covers : Problem → List (List ℕ) → ℕ → Type 0) (bound : Problem → ℕ) (grows : Grows covers) (t : Problem) (o : Opening)
    (s next : State) (failures more : List Failure) (journal : List Entry) (entry : Entry) (p : ℕ) (m : Mark)
    (b : IsBoard covers bound t o s failures journal) (h : IsMarked covers bound t o s next failures more journal entry p m) where
  fails_stay : KeepFails s.marks next.marks
  fails_stay q stands = ap (λ marks. mark_of marks q) h.marks_are ∙ mark_stays s.marks p q m Fails h.free stands

  justified_here : (q : ℕ) (n : Mark) → q ≡ p → mark_of next.marks q ≡ Some n
      → IsJustified covers bound (evidence t o next more (journal ++ entry ∷ [])) q n
  justified_here q n e marked =
      let P : ℕ → Type 0 = λ x. mark_of next.marks x ≡ Some n in
      let at : mark_of next.marks p ≡ Some n = subst P e marked in
      let set : mark_of next.marks p ≡ Some m = ap (λ marks. mark_of marks p) h.marks_are ∙ mark_set s.marks p m h.within in
      let same : m ≡ n = same_Some m n (sym set ∙ at) in
      let Q : Mark → Type 0 = λ x. IsJustified covers bound (evidence t o next more (journal ++ entry ∷ [])) p x in
      let R : ℕ → Type 0 = λ x. IsJustified covers bound (evidence t o next more (journal ++ entry ∷ [])) x n in
      subst R (sym e) (subst Q same h.here)

  justified_there : (q : ℕ) (n : Mark) → (q ≡ p → ⊥) → mark_of next.marks q ≡ Some n
      → IsJustified covers bound (evidence t o next more (journal ++ entry ∷ [])) q n
  justified_there q n other marked =
      let was : mark_of s.marks q ≡ Some n =
      sym (get_or-set_other s.marks p q (Some m) None other) ∙ ap (λ marks. mark_of marks q) (sym h.marks_are) ∙ marked in
      justified_later covers bound grows (evidence t o s failures journal) next.clauses more next.marks entry h.part fails_stay q
      (h.keeps q (λ e. other (sym e))) n (b.justified q n was)

  pub marked : IsNext covers bound t o s next failures more journal entry
  marked = record {
    width = ap length h.marks_are ∙ length-set s.marks p (Some m);
    justified = λ q n stands.
        elim (cases_eq q p) [
          | inl e ↦ justified_here q n e stands
          | inr other ↦ justified_there q n other stands
        ];
    stopped = λ q stands.
        let was = b.stopped q (sym h.cancel_is ∙ stands) in
        record {
          cancel = cancel_later journal q entry was.cancel;
          assumed = was.assumed;
          fails = fails_stay q was.fails;
        };
    failures_are = h.are;
    failures_fail = λ k d less. ap (λ marks. mark_of marks (get_or more k d).property) h.marks_are ∙ h.fail k d less;
  }
