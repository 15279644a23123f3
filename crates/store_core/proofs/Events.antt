-- A board behind each kind of event.
use Rattle.std.proofs.Common.{◌≡◌, ℕ, ◌+◌, ◌<◌, ◌&&◌, inl, inr, Bool, true, false, cond, List, [], ◌∷◌, ◌++◌, Option, Some, None, length, refl, sym, ◌∙◌, ap, subst, arith}
use Rattle.std.specs.Prelude.{All, Contains, slice_set, is_none, is_some}
use Rattle.std.proofs.lemmas.Bool.{and_parts, false≢true}
use Rattle.std.proofs.lemmas.Option.{same_Some}
use Rattle.std.proofs.lemmas.List.{append-nil, length-append, map-append}
use Rattle.std.proofs.lemmas.List.Elements.{Contains-get_or, All-push}
use Rattle.ja_base.specs.Literals.{bit}
use Rattle.ja_base.specs.Circuit.{Problem}
use Rattle.ja_base.specs.Runs.{Trace, IsLocalFailure}
use Rattle.ja_base.specs.ClauseSets.{fresh, joined}
use Rattle.ja_base.specs.Failures.{Failure}
use Rattle.ja_base.proofs.JoinLemmas.{joined_is_fresh, joined_has_second, first_is_part}
use Rattle.store_core.specs.declared.journal.Opening.{Opening}
use Rattle.store_core.specs.declared.journal.Entry.{Entry}
use Rattle.store_core.specs.declared.journal.Event.{Event}
use Rattle.store_core.specs.declared.journal.Event.TheVariants.{Draw, Import, Publish, Settle, Cancel, GiveUp}
use Rattle.store_core.specs.declared.journal.Reply.{Reply}
use Rattle.store_core.specs.declared.journal.Reply.TheVariants as reply
use Rattle.store_core.specs.declared.mark.Mark.{Mark}
use Rattle.store_core.specs.declared.mark.Mark.TheVariants as mark
use Rattle.store_core.specs.Steps.{State, kept, mark_of, job_of, can_cancel, state_after, draw_reply, drawn, cancelled, settled, settled_clauses, settle_reply, given_up, give_up_reply}
use Rattle.store_core.specs.MarkKinds.{is_failing}
use Rattle.store_core.specs.History.{entry_of}
use Rattle.store_core.specs.Boards.{BoardValue, IsBoard, IsStopped, Did, AsksWithin, failed_by}
use Rattle.store_core.proofs.Reasons.{Grows}
use Rattle.store_core.proofs.NextBoards.{IsNext, next_board, unmarked, marked, mark_set, mark_stays, fail_later, none_of_free, shown_new, shown_later}

-- the state and the entry are those behind the event
pub board_behind : (covers : Problem → List (List ℕ) → ℕ
    → Type 0) (bound : Problem → ℕ) (t : Problem) (o : Opening) (s next : State)
    (failures more : List Failure) (journal after : List Entry) (seat : ℕ) (event : Event) (e : Entry)
    → IsBoard covers bound t o s failures journal → next ≡ state_after o s (kept s event) → e ≡ entry_of o s seat event
    → after ≡ journal ++ e ∷ [] → AsksWithin (length o.assumed) e → IsNext covers bound t o s next failures more journal e
    → IsBoard covers bound t o next more after
board_behind covers bound t o s next failures more journal after seat event e b next_is entry_is after_is asks h =
    let P : State → Type 0 = λ n. IsNext covers bound t o s n failures more journal e in
    let Q : Entry → Type 0 = λ x. IsNext covers bound t o s (state_after o s (kept s event)) failures more journal x in
    let board : IsBoard covers bound t o (state_after o s (kept s event)) more (journal ++ entry_of o s seat event ∷ []) =
    next_board covers bound t o s failures journal seat event b more (subst (AsksWithin (length o.assumed)) entry_is asks)
    (subst Q entry_is (subst P next_is h)) in
    let R : Entry → Type 0 = λ x. IsBoard covers bound t o (state_after o s (kept s event)) more (journal ++ x ∷ []) in
    let S : State → Type 0 = λ n. IsBoard covers bound t o n more (journal ++ e ∷ []) in
    let U : List Entry → Type 0 = λ es. IsBoard covers bound t o next more es in
    subst U (sym after_is) (subst S (sym next_is) (subst R (sym entry_is) board))

all_kept : (clauses : List (List ℕ)) → All (Contains clauses) clauses
all_kept clauses k d h = Contains-get_or clauses k d h

-- an entry that settles nothing
failed_by_had : (p : ℕ) (m had : Mark) → failed_by (Settle p m []) (reply.Had had) ≡ []
failed_by_had p mark.Proved had = refl
failed_by_had p mark.Fails had = refl
failed_by_had p (mark.Budget n) had = refl
failed_by_had p mark.Cancelled had = refl

fails_is : (m : Option Mark) → is_failing m ≡ true → m ≡ Some mark.Fails
fails_is None e = absurd (false≢true e)
fails_is (Some mark.Proved) e = absurd (false≢true e)
fails_is (Some mark.Fails) e = refl
fails_is (Some (mark.Budget n)) e = absurd (false≢true e)
fails_is (Some mark.Cancelled) e = absurd (false≢true e)

-- what is asked of a Cancel
cancel_facts : (fast assumed : Bool) (m : Option Mark) (none : Bool) → (fast && assumed && is_failing m && none) ≡ true
    → (assumed ≡ true) × (m ≡ Some mark.Fails)
cancel_facts fast assumed m none e =
    let front = (and_parts (fast && assumed && is_failing m) none e).0 in
    let both = and_parts (fast && assumed) (is_failing m) front in
    ((and_parts fast assumed both.0).1, fails_is m both.1)

-- the property has no mark, and a Cancel stands
record GivesUp (m : Option Mark) (cancel : Option ℕ) : Type 0 where
  free : m ≡ None
  cause : ℕ
  cause_is : cancel ≡ Some cause

gave_up : (m : Option Mark) (cancel : Option ℕ) → (is_none m && is_some cancel) ≡ true → GivesUp m cancel
gave_up (Some had) cancel e = absurd (false≢true e)
gave_up None None e = absurd (false≢true e)
gave_up None (Some q) e = record { free = refl; cause = q; cause_is = refl }

not_given_up : (m : Option Mark) (cancel : Option ℕ) (s : State) (p : ℕ) → (is_none m && is_some cancel) ≡ false
    → s ≡ given_up m cancel s p
not_given_up (Some had) cancel s p e = refl
not_given_up None None s p e = refl
not_given_up None (Some q) s p e = absurd (false≢true (sym e))

module _ (o : Opening) (s : State) (seat : ℕ) where
  -- the list that grew has the old clauses and the fresh ones of the part
  grown : (more part : List (List ℕ)) → more ≡ joined s.clauses part → more ≡ s.clauses ++ fresh s.clauses part
  grown more part is = is ∙ joined_is_fresh s.clauses part

  count_grown : (more part : List (List ℕ)) (upto : ℕ) → more ≡ joined s.clauses part → upto ≡ length more
      → upto ≡ length s.clauses + length (fresh s.clauses part)
  count_grown more part upto is count = count ∙ ap length (grown more part is) ∙ length-append s.clauses (fresh s.clauses part)

  pub publish_state : (more part : List (List ℕ)) → more ≡ joined s.clauses part
      → record s { clauses = more } ≡ state_after o s (kept s (Publish part))
  publish_state more part is = ap (λ xs. record s { clauses = xs }) (grown more part is)

  pub publish_entry : (more part added : List (List ℕ)) (upto : ℕ) → more ≡ joined s.clauses part → added ≡ fresh s.clauses part
      → upto ≡ length more → record { seat = seat; event = Publish added; reply = reply.Added upto } ≡ entry_of o s seat
      (Publish part)
  publish_entry more part added upto is new count =
      ap (λ xs. record { seat = seat; event = Publish xs; reply = reply.Added upto }) new
      ∙ ap (λ n. record { seat = seat; event = Publish (fresh s.clauses part); reply = reply.Added n })
      (count_grown more part upto is count)

  pub prove_state : (p : ℕ) (more part : List (List ℕ)) → mark_of s.marks p ≡ None → more ≡ joined s.clauses part
      → record s { clauses = more; marks = slice_set s.marks p (Some mark.Proved) } ≡ state_after o s
      (kept s (Settle p mark.Proved part))
  prove_state p more part free is =
      ap (λ xs. record s { clauses = xs; marks = slice_set s.marks p (Some mark.Proved) }) (grown more part is)
      ∙ ap (λ (x : Option Mark). settled x s p mark.Proved (settled_clauses x mark.Proved s.clauses part)) (sym free)

  pub prove_entry : (p : ℕ) (more part added : List (List ℕ)) (upto : ℕ) → mark_of s.marks p ≡ None → more ≡ joined s.clauses part
      → added ≡ fresh s.clauses part → upto ≡ length more
      → record { seat = seat; event = Settle p mark.Proved added; reply = reply.Settled upto } ≡ entry_of o s seat
      (Settle p mark.Proved part)
  prove_entry p more part added upto free is new count =
      ap (λ xs. record { seat = seat; event = Settle p mark.Proved xs; reply = reply.Settled upto }) new
      ∙ ap (λ n. record { seat = seat; event = Settle p mark.Proved (fresh s.clauses part); reply = reply.Settled n })
      (count_grown more part upto is count)
      ∙ ap (λ (x : Option Mark). record {
        seat = seat;
        event = Settle p mark.Proved (settled_clauses x mark.Proved s.clauses part);
        reply = settle_reply x (length s.clauses + length (settled_clauses x mark.Proved s.clauses part));
      }) (sym free)

  pub settles_plainly : (p : ℕ) (m : Mark) (upto : ℕ) → mark_of s.marks p ≡ None → upto ≡ length s.clauses
      → settled_clauses None m s.clauses [] ≡ []
      → record { seat = seat; event = Settle p m []; reply = reply.Settled upto } ≡ entry_of o s seat (Settle p m [])
  settles_plainly p m upto free count same =
      let none : length s.clauses ≡ length s.clauses + 0 = omega arith in
      ap (λ n. record { seat = seat; event = Settle p m []; reply = reply.Settled n }) (count ∙ none)
      ∙ ap (λ (xs : List (List ℕ)). record {
        seat = seat;
        event = Settle p m xs;
        reply = reply.Settled (length s.clauses + length xs);
      }) (sym same)
      ∙ ap (λ (x : Option Mark). record {
        seat = seat;
        event = Settle p m (settled_clauses x m s.clauses []);
        reply = settle_reply x (length s.clauses + length (settled_clauses x m s.clauses []));
      }) (sym free)

  pub marks_plainly : (p : ℕ) (m : Mark) → mark_of s.marks p ≡ None → settled_clauses None m s.clauses [] ≡ []
      → record s { marks = slice_set s.marks p (Some m) } ≡ state_after o s (kept s (Settle p m []))
  marks_plainly p m free same =
      ap (λ (xs : List (List ℕ)). record s { clauses = xs; marks = slice_set s.marks p (Some m) }) (sym (append-nil s.clauses))
      ∙ ap (λ (xs : List (List ℕ)). record s { clauses = s.clauses ++ xs; marks = slice_set s.marks p (Some m) }) (sym same)
      ∙ ap (λ (x : Option Mark). settled x s p m (settled_clauses x m s.clauses [])) (sym free)

module _ (covers : Problem → List (List ℕ) → ℕ → Type 0) (bound : Problem → ℕ) (grows : Grows covers) (t : Problem) (o : Opening)
    (s : State) (failures : List Failure) (journal after : List Entry) (seat : ℕ)
    (b : IsBoard covers bound t o s failures journal) where
  -- there is a place for the mark of each property
  in_range : (p : ℕ) → p < length o.assumed → p < length s.marks
  in_range p h = let P : ℕ → Type 0 = λ n. p < n in subst P (b.opens.width ∙ sym b.width) h

  -- no mark, no clause and no Cancel more
  quiet : (next : State) (event : Event) (e : Entry) → next ≡ state_after o s (kept s event) → e ≡ entry_of o s seat event
      → next.marks ≡ s.marks → next.clauses ≡ s.clauses → next.cancel ≡ s.cancel → failed_by e.event e.reply ≡ []
      → after ≡ journal ++ e ∷ [] → AsksWithin (length o.assumed) e → IsBoard covers bound t o next failures after
  quiet next event e next_is entry_is marks clauses cancel free after_is asks =
      let P : List (List ℕ) → Type 0 = λ more. All (Contains more) s.clauses in
      board_behind covers bound t o s next failures failures journal after seat event e b next_is entry_is after_is asks
      (unmarked covers bound grows t o s next failures journal e b marks (subst P (sym clauses) (all_kept s.clauses))
      (λ q stands. inl (sym cancel ∙ stands)) free)

  pub draws_job : (p upto : ℕ) → job_of o s ≡ Some p → upto ≡ length s.clauses
      → after ≡ journal ++ record { seat = seat; event = Draw; reply = reply.Job p upto } ∷ []
      → IsBoard covers bound t o (record s { place = s.place + 1 }) failures after
  draws_job p upto job count after_is =
      let e : Entry = record { seat = seat; event = Draw; reply = reply.Job p upto } in
      let is : e ≡ entry_of o s seat Draw =
      ap (λ n. record { seat = seat; event = Draw; reply = reply.Job p n }) count
      ∙ ap (λ j. record { seat = seat; event = Draw; reply = draw_reply j (length s.clauses) }) (sym job) in
      quiet (record s { place = s.place + 1 }) Draw e (ap (λ j. drawn j s) (sym job)) is refl refl refl refl after_is tt

  pub draws_none : (upto : ℕ) → job_of o s ≡ None → upto ≡ length s.clauses
      → after ≡ journal ++ record { seat = seat; event = Draw; reply = reply.NoJob upto } ∷ []
      → IsBoard covers bound t o s failures after
  draws_none upto job count after_is =
      let e : Entry = record { seat = seat; event = Draw; reply = reply.NoJob upto } in
      let is : e ≡ entry_of o s seat Draw =
      ap (λ n. record { seat = seat; event = Draw; reply = reply.NoJob n }) count
      ∙ ap (λ j. record { seat = seat; event = Draw; reply = draw_reply j (length s.clauses) }) (sym job) in
      quiet s Draw e (ap (λ j. drawn j s) (sym job)) is refl refl refl refl after_is tt

  pub imports : (upto : ℕ) → upto ≡ length s.clauses
      → after ≡ journal ++ record { seat = seat; event = Import; reply = reply.Clauses upto } ∷ []
      → IsBoard covers bound t o s failures after
  imports upto count after_is =
      let e : Entry = record { seat = seat; event = Import; reply = reply.Clauses upto } in
      let is : e ≡ entry_of o s seat Import = ap (λ n. record { seat = seat; event = Import; reply = reply.Clauses n }) count in
      quiet s Import e refl is refl refl refl refl after_is tt

  pub longer_part : (more part : List (List ℕ)) → more ≡ joined s.clauses part → All (Contains more) s.clauses
  longer_part more part is =
      let P : List (List ℕ) → Type 0 = λ xs. All (Contains xs) s.clauses in
      subst P (sym (grown o s seat more part is)) (first_is_part s.clauses (fresh s.clauses part))

  pub publishes : (more part added : List (List ℕ)) (upto : ℕ) → more ≡ joined s.clauses part → added ≡ fresh s.clauses part
      → upto ≡ length more → after ≡ journal ++ record { seat = seat; event = Publish added; reply = reply.Added upto } ∷ []
      → IsBoard covers bound t o (record s { clauses = more }) failures after
  publishes more part added upto is new count after_is =
      let e : Entry = record { seat = seat; event = Publish added; reply = reply.Added upto } in
      let entry_is : e ≡ entry_of o s seat (Publish part) = publish_entry o s seat more part added upto is new count in
      let next_is : record s { clauses = more } ≡ state_after o s (kept s (Publish part)) = publish_state o s seat more part is in
      board_behind covers bound t o s (record s { clauses = more }) failures failures journal after seat
      (Publish part) e b next_is entry_is after_is tt
      (unmarked covers bound grows t o s (record s { clauses = more }) failures journal e b refl (longer_part more part is)
      (λ q stands. inl stands) refl)

  -- ---- marks that stand

  pub keeps_mark : (p : ℕ) (had m : Mark) → p < length o.assumed → mark_of s.marks p ≡ Some had
      → after ≡ journal ++ record { seat = seat; event = Settle p m []; reply = reply.Had had } ∷ []
      → IsBoard covers bound t o s failures after
  keeps_mark p had m within stands after_is =
      let e : Entry = record { seat = seat; event = Settle p m []; reply = reply.Had had } in
      let entry_is : e ≡ entry_of o s seat (Settle p m []) =
      ap (λ (x : Option Mark). record {
        seat = seat;
        event = Settle p m (settled_clauses x m s.clauses []);
        reply = settle_reply x (length s.clauses + length (settled_clauses x m s.clauses []));
      }) (sym stands) in
      let next_is : s ≡ state_after o s (kept s (Settle p m [])) =
      ap (λ (x : Option Mark). settled x s p m (settled_clauses x m s.clauses [])) (sym stands) in
      quiet s (Settle p m []) e next_is entry_is refl refl refl (failed_by_had p m had) after_is
      within

  -- ---- a Cancel

  pub cancels : (p : ℕ) → p < length o.assumed → can_cancel o s p ≡ true
      → after ≡ journal ++ record { seat = seat; event = Cancel p; reply = reply.Cancelled } ∷ []
      → IsBoard covers bound t o (record s { cancel = Some p }) failures after
  cancels p within can after_is =
      let e : Entry = record { seat = seat; event = Cancel p; reply = reply.Cancelled } in
      let entry_is : e ≡ entry_of o s seat (Cancel p) =
      ap (λ c. record { seat = seat; event = Cancel p; reply = cond c reply.Cancelled reply.NotNow }) (sym can) in
      let next_is : record s { cancel = Some p } ≡ state_after o s (kept s (Cancel p)) = ap (λ c. cancelled c s p) (sym can) in
      let facts = cancel_facts (o.fail_fast) (bit o.assumed p) (mark_of s.marks p) (is_none s.cancel) can in
      let here : IsStopped o (record s { cancel = Some p }) (journal ++ e ∷ []) p = record {
        cancel = record { before = journal; entry = e; after = []; journal_is = refl; event_is = refl; reply_is = refl };
        assumed = facts.0;
        fails = facts.1;
      } in
      let P : ℕ → Type 0 = λ q. IsStopped o (record s { cancel = Some p }) (journal ++ e ∷ []) q in
      board_behind covers bound t o s (record s { cancel = Some p }) failures failures journal after seat (Cancel p) e b next_is
      entry_is after_is within
      (unmarked covers bound grows t o s (record s { cancel = Some p }) failures journal e b refl (all_kept s.clauses)
      (λ q stands. inr (subst P (same_Some p q stands) here)) refl)

  pub cancels_not : (p : ℕ) → p < length o.assumed → can_cancel o s p ≡ false
      → after ≡ journal ++ record { seat = seat; event = Cancel p; reply = reply.NotNow } ∷ []
      → IsBoard covers bound t o s failures after
  cancels_not p within can after_is =
      let e : Entry = record { seat = seat; event = Cancel p; reply = reply.NotNow } in
      let entry_is : e ≡ entry_of o s seat (Cancel p) =
      ap (λ c. record { seat = seat; event = Cancel p; reply = cond c reply.Cancelled reply.NotNow }) (sym can) in
      let next_is : s ≡ state_after o s (kept s (Cancel p)) = ap (λ c. cancelled c s p) (sym can) in
      quiet s (Cancel p) e next_is entry_is refl refl refl refl after_is within

  -- ---- properties that are given up

  pub goes_on : (p : ℕ) (r : Reply) → p < length o.assumed → r ≡ give_up_reply (mark_of s.marks p) s.cancel
      → (is_none (mark_of s.marks p) && is_some s.cancel) ≡ false
      → after ≡ journal ++ record { seat = seat; event = GiveUp p; reply = r } ∷ []
      → IsBoard covers bound t o s failures after
  goes_on p r within is stays after_is =
      let e : Entry = record { seat = seat; event = GiveUp p; reply = r } in
      let entry_is : e ≡ entry_of o s seat (GiveUp p) = ap (λ x. record { seat = seat; event = GiveUp p; reply = x }) is in
      let next_is : s ≡ state_after o s (kept s (GiveUp p)) = not_given_up (mark_of s.marks p) s.cancel s p stays in
      quiet s (GiveUp p) e next_is entry_is refl refl refl refl after_is within

  pub gives_up : (p : ℕ) (r : Reply) → p < length o.assumed → r ≡ give_up_reply (mark_of s.marks p) s.cancel
      → (is_none (mark_of s.marks p) && is_some s.cancel) ≡ true
      → after ≡ journal ++ record { seat = seat; event = GiveUp p; reply = r } ∷ []
      → IsBoard covers bound t o (record s { marks = slice_set s.marks p (Some mark.Cancelled) }) failures after
  gives_up p r within is goes after_is =
      let e : Entry = record { seat = seat; event = GiveUp p; reply = r } in
      let entry_is : e ≡ entry_of o s seat (GiveUp p) = ap (λ x. record { seat = seat; event = GiveUp p; reply = x }) is in
      let facts : GivesUp (mark_of s.marks p) s.cancel = gave_up (mark_of s.marks p) s.cancel goes in
      let gave : r ≡ reply.GaveUp = is ∙ ap (λ m. give_up_reply m s.cancel) facts.free
      ∙ ap (λ c. give_up_reply None c) facts.cause_is in
      let next : State = record s { marks = slice_set s.marks p (Some mark.Cancelled) } in
      let next_is : next ≡ state_after o s (kept s (GiveUp p)) =
      ap (λ c. given_up None c s p) (sym facts.cause_is) ∙ ap (λ m. given_up m s.cancel s p) (sym facts.free) in
      let was = b.stopped facts.cause facts.cause_is in
      board_behind covers bound t o s next failures failures journal after seat (GiveUp p) e b next_is entry_is after_is
      within
      (marked covers bound grows t o s next failures failures journal e p mark.Cancelled b record {
        within = in_range p within;
        free = facts.free;
        marks_are = refl;
        cancel_is = refl;
        part = all_kept s.clauses;
        keeps = λ q other shown. shown;
        here = record {
          before = journal;
          entry = e;
          after = [];
          journal_is = refl;
          event_is = refl;
          reply_is = gave;
          cause = facts.cause;
          cancel = was.cancel;
          assumed = was.assumed;
          fails = mark_stays s.marks p facts.cause mark.Cancelled mark.Fails facts.free was.fails;
        };
        are = sym (append-nil _);
        fail = fail_later s.marks failures p mark.Cancelled facts.free b.failures_fail;
      })

  -- ---- judgements

  pub proves : (p : ℕ) (more part added : List (List ℕ)) (upto : ℕ) → p < length o.assumed → mark_of s.marks p ≡ None
      → covers t part p → more ≡ joined s.clauses part → added ≡ fresh s.clauses part → upto ≡ length more
      → after ≡ journal ++ record { seat = seat; event = Settle p mark.Proved added; reply = reply.Settled upto } ∷ []
      → IsBoard covers bound t o (record s { clauses = more; marks = slice_set s.marks p (Some mark.Proved) }) failures after
  proves p more part added upto within free covered is new count after_is =
      let e : Entry = record { seat = seat; event = Settle p mark.Proved added; reply = reply.Settled upto } in
      let next : State = record s { clauses = more; marks = slice_set s.marks p (Some mark.Proved) } in
      let entry_is : e ≡ entry_of o s seat (Settle p mark.Proved part) =
      prove_entry o s seat p more part added upto free is new count in
      let next_is : next ≡ state_after o s (kept s (Settle p mark.Proved part)) = prove_state o s seat p more part free is in
      let P : List (List ℕ) → Type 0 = λ xs. All (Contains xs) part in
      let has : All (Contains more) part = subst P (sym is) (joined_has_second s.clauses part) in
      board_behind covers bound t o s next failures failures journal after seat (Settle p mark.Proved part) e b next_is entry_is
      after_is within
      (marked covers bound grows t o s next failures failures journal e p mark.Proved b record {
        within = in_range p within;
        free = free;
        marks_are = refl;
        cancel_is = refl;
        part = longer_part more part is;
        keeps = λ q other shown. shown;
        here = grows t part more p covered has;
        are = sym (append-nil _);
        fail = fail_later s.marks failures p mark.Proved free b.failures_fail;
      })

  pub spends : (p n upto : ℕ) → p < length o.assumed → mark_of s.marks p ≡ None → o.limit ≡ Some n → upto ≡ length s.clauses
      → after ≡ journal ++ record { seat = seat; event = Settle p (mark.Budget n) []; reply = reply.Settled upto } ∷ []
      → IsBoard covers bound t o (record s { marks = slice_set s.marks p (Some (mark.Budget n)) }) failures after
  spends p n upto within free limit count after_is =
      let e : Entry = record { seat = seat; event = Settle p (mark.Budget n) []; reply = reply.Settled upto } in
      let next : State = record s { marks = slice_set s.marks p (Some (mark.Budget n)) } in
      let entry_is : e ≡ entry_of o s seat (Settle p (mark.Budget n) []) =
      settles_plainly o s seat p (mark.Budget n) upto free count refl in
      let next_is : next ≡ state_after o s (kept s (Settle p (mark.Budget n) [])) =
      marks_plainly o s seat p (mark.Budget n) free refl in
      board_behind covers bound t o s next failures failures journal after seat (Settle p (mark.Budget n) []) e b next_is entry_is
      after_is within
      (marked covers bound grows t o s next failures failures journal e p (mark.Budget n) b record {
        within = in_range p within;
        free = free;
        marks_are = refl;
        cancel_is = refl;
        part = all_kept s.clauses;
        keeps = λ q other shown. shown;
        here = record { limit = limit };
        are = sym (append-nil _);
        fail = fail_later s.marks failures p (mark.Budget n) free b.failures_fail;
      })

  pub shows : (p upto : ℕ) (m : Trace) → p < length o.assumed → mark_of s.marks p ≡ None → IsLocalFailure t p m
      → upto ≡ length s.clauses
      → after ≡ journal ++ record { seat = seat; event = Settle p mark.Fails []; reply = reply.Settled upto } ∷ []
      → IsBoard covers bound t o (record s { marks = slice_set s.marks p (Some mark.Fails) })
      (failures ++ record { property = p; stimulus = m } ∷ []) after
  shows p upto m within free fails count after_is =
      let e : Entry = record { seat = seat; event = Settle p mark.Fails []; reply = reply.Settled upto } in
      let f : Failure = record { property = p; stimulus = m } in
      let next : State = record s { marks = slice_set s.marks p (Some mark.Fails) } in
      let entry_is : e ≡ entry_of o s seat (Settle p mark.Fails []) =
      settles_plainly o s seat p mark.Fails upto free count refl in
      let next_is : next ≡ state_after o s (kept s (Settle p mark.Fails [])) = marks_plainly o s seat p mark.Fails free refl in
      board_behind covers bound t o s next failures (failures ++ f ∷ []) journal after seat (Settle p mark.Fails []) e b next_is
      entry_is after_is within
      (marked covers bound grows t o s next failures (failures ++ f ∷ []) journal e p mark.Fails b record {
        within = in_range p within;
        free = free;
        marks_are = refl;
        cancel_is = refl;
        part = all_kept s.clauses;
        keeps = λ q other shown. shown_later t failures f q other shown;
        here = shown_new t failures f (none_of_free s.marks failures p b.failures_fail free) fails;
        are = map-append (λ (g : Failure). g.property) failures (f ∷ []);
        fail =
            All-push (λ (g : Failure). mark_of (slice_set s.marks p (Some mark.Fails)) g.property ≡ Some mark.Fails) failures f
            (fail_later s.marks failures p mark.Fails free b.failures_fail) (mark_set s.marks p mark.Fails (in_range p within));
      })

-- what is known of the fields of a board is known of the board
pub did_before : {C V : Type 0} (task : C → Problem) (old before after : BoardValue C V) (seat : ℕ) (event : Event) → old ≡ before
    → Did task old after seat event → Did task before after seat event
did_before task old before after seat event is h =
    let P : BoardValue _ _ → Type 0 = λ b. Did task b after seat event in
    subst P is h
