-- The journal of a board is in the form in which a report shows it.
use Rattle.std.proofs.Common.{◌≡◌, ℕ, ◌+◌, ◌<◌, Bool, true, false, cond, Option, Some, None, List, [], ◌∷◌, ◌++◌, length, refl, sym, ap, subst, ◌∙◌, arith}
use Rattle.std.specs.Prelude.{All, Contains, IfSome, flat_map}
use Rattle.std.proofs.lemmas.Bool.{false≢true}
use Rattle.std.proofs.lemmas.Option.{slice_get_within, get_or_from_slice_get, none-some}
use Rattle.std.proofs.lemmas.List.{append-nil, append_assoc, length-append}
use Rattle.std.proofs.lemmas.List.Elements.{All-head, All-tail}
use Rattle.ja_base.specs.Failures.{Failure}
use Rattle.aig_model.specs.Task.{VerificationTask}
use Rattle.store_core.specs.declared.journal.Opening.{Opening}
use Rattle.store_core.specs.declared.journal.Entry.{Entry}
use Rattle.store_core.specs.declared.journal.Event.{Event}
use Rattle.store_core.specs.declared.journal.Event.TheVariants.{Draw, Import, Publish, Settle, Cancel, GiveUp}
use Rattle.store_core.specs.declared.journal.Reply.{Reply}
use Rattle.store_core.specs.declared.journal.Reply.TheVariants as reply
use Rattle.store_core.specs.declared.mark.Mark.{Mark}
use Rattle.store_core.specs.declared.mark.Mark.TheVariants as mark
use Rattle.store_core.specs.Steps.{State, kept, opened, mark_of, job_of, can_cancel, state_after, reply_to, draw_reply, drawn, settled, settled_clauses, settle_reply, cancelled, given_up, give_up_reply}
use Rattle.store_core.specs.History.{IsHistoryFrom, state_behind}
use Rattle.store_core.specs.Boards.{AsksWithin, asked_of}
use Rattle.report.specs.declared.what.What.TheVariants.{Draws, DrawsNone, Imports, Publishes, Settles, SettlesHad, Cancels, CancelsNot, GivesUp, GoesOn, GivesUpHad}
use Rattle.report.specs.declared.parts.Sizes.{Sizes}
use Rattle.report.specs.Entries.{IsAnswered, AreAnswered, added_by, may_append}
use Rattle.report.specs.Findings.{Findings}
use Rattle.report.specs.Reports.{IfShown, IsShownJournal}
use Rattle.sign_task.proofs.CertifyLemmas.{IsEnd}

pub if_shown : (b : Bool) (P : Type 0) → P → IfShown b P
if_shown true P h = h
if_shown false P h = tt

none_more : (n : ℕ) → n ≡ n + 0
none_more n = omega arith

-- ---- what an entry says

-- it is answered, and so many clauses stand behind it
abbrev entry : ℕ → Event → Reply → Entry
entry seat event answer = record { seat = seat; event = event; reply = answer }

module _ (props n seat : ℕ) where
  draw_answers : (job : Option ℕ) → ((p : ℕ) → job ≡ Some p → p < props) → IsAnswered props n (entry seat Draw (draw_reply job n))
  draw_answers None within = record {
    what = DrawsNone;
    says = refl;
    within = tt;
    count = none_more n;
    appends = λ _. refl;
  }
  draw_answers (Some p) within = record {
    what = Draws p;
    says = refl;
    within = within p refl;
    count = none_more n;
    appends = λ _. refl;
  }

  import_answers : IsAnswered props n (entry seat Import (reply.Clauses n))
  import_answers = record { what = Imports; says = refl; within = tt; count = none_more n; appends = λ _. refl }

  publish_answers : (added : List (List ℕ)) → IsAnswered props n (entry seat (Publish added) (reply.Added (n + length added)))
  publish_answers added = record {
    what = Publishes;
    says = refl;
    within = tt;
    count = refl;
    appends = λ e. absurd (false≢true (sym e));
  }

  settle_answers : (p : ℕ) (m : Mark) (had : Option Mark) (clauses added : List (List ℕ)) → p < props
      → settled_clauses had m clauses added ≡ added
      → IsAnswered props n (entry seat (Settle p m added) (settle_reply had (n + length added)))
  settle_answers p m (Some was) clauses added within is = record {
    what = SettlesHad p m was;
    says = refl;
    within = within;
    count = none_more n ∙ ap (λ (xs : List (List ℕ)). n + length xs) is;
    appends = λ _. sym is;
  }
  settle_answers p m None clauses added within is = record {
    what = Settles p m;
    says = refl;
    within = within;
    count = refl;
    appends = plain m is;
  }
    where
      plain : (x : Mark) → settled_clauses None x clauses added ≡ added → may_append (Settles p x) ≡ false → added ≡ []
      plain mark.Proved e never = absurd (false≢true (sym never))
      plain mark.Fails e never = sym e
      plain (mark.Budget k) e never = sym e
      plain mark.Cancelled e never = sym e

  cancel_answers : (p : ℕ) (can : Bool) → p < props
      → IsAnswered props n (entry seat (Cancel p) (cond can reply.Cancelled reply.NotNow))
  cancel_answers p true within = record {
    what = Cancels p;
    says = refl;
    within = within;
    count = none_more n;
    appends = λ _. refl;
  }
  cancel_answers p false within = record {
    what = CancelsNot p;
    says = refl;
    within = within;
    count = none_more n;
    appends = λ _. refl;
  }

  give_up_answers : (p : ℕ) (had : Option Mark) (cancel : Option ℕ) → p < props
      → IsAnswered props n (entry seat (GiveUp p) (give_up_reply had cancel))
  give_up_answers p (Some was) cancel within = record {
    what = GivesUpHad p was;
    says = refl;
    within = within;
    count = none_more n;
    appends = λ _. refl;
  }
  give_up_answers p None None within = record {
    what = GoesOn p;
    says = refl;
    within = within;
    count = none_more n;
    appends = λ _. refl;
  }
  give_up_answers p None (Some q) within = record {
    what = GivesUp p;
    says = refl;
    within = within;
    count = none_more n;
    appends = λ _. refl;
  }

module _ (o : Opening) (planned : (p : ℕ) → Contains o.plan p → p < length o.assumed) where
  job_within : (c : Option ℕ) (place p : ℕ) → job_of o (record { place = place; clauses = []; marks = []; cancel = c }) ≡ Some p
      → p < length o.assumed
  job_within None place p e =
      planned p (place, slice_get_within o.plan place p e, get_or_from_slice_get o.plan place p p e)
  job_within (Some q) place p e = absurd (none-some p e)

  says : (s : State) (seat : ℕ) (event : Event) → kept s event ≡ event → IfSome (asked_of event) (λ p. p < length o.assumed)
      → IsAnswered (length o.assumed) (length s.clauses) (entry seat event (reply_to o s event))
  says s seat Draw is asks = draw_answers (length o.assumed) (length s.clauses) seat (job_of o s) (job_within s.cancel s.place)
  says s seat Import is asks = import_answers (length o.assumed) (length s.clauses) seat
  says s seat (Publish added) is asks = publish_answers (length o.assumed) (length s.clauses) seat added
  says s seat (Settle p m added) is asks =
      settle_answers (length o.assumed) (length s.clauses) seat p m (mark_of s.marks p) s.clauses added asks (ap added_by is)
  says s seat (Cancel p) is asks = cancel_answers (length o.assumed) (length s.clauses) seat p (can_cancel o s p) asks
  says s seat (GiveUp p) is asks =
      give_up_answers (length o.assumed) (length s.clauses) seat p (mark_of s.marks p) s.cancel asks

  -- ---- the clauses behind it

  draw_clauses : (s : State) (job : Option ℕ) → (drawn job s).clauses ≡ s.clauses
  draw_clauses s None = refl
  draw_clauses s (Some p) = refl

  settle_clauses : (s : State) (p : ℕ) (m : Mark) (had : Option Mark) (added : List (List ℕ))
      → settled_clauses had m s.clauses added ≡ added → (settled had s p m added).clauses ≡ s.clauses ++ added
  settle_clauses s p m (Some was) added is = sym (append-nil s.clauses) ∙ ap (λ (xs : List (List ℕ)). s.clauses ++ xs) is
  settle_clauses s p m None added is = refl

  cancel_clauses : (s : State) (p : ℕ) (can : Bool) → (cancelled can s p).clauses ≡ s.clauses
  cancel_clauses s p true = refl
  cancel_clauses s p false = refl

  give_up_clauses : (s : State) (p : ℕ) (had : Option Mark) (cancel : Option ℕ) → (given_up had cancel s p).clauses ≡ s.clauses
  give_up_clauses s p (Some was) cancel = refl
  give_up_clauses s p None None = refl
  give_up_clauses s p None (Some q) = refl

  clauses_behind : (s : State) (event : Event) → kept s event ≡ event
      → (state_after o s event).clauses ≡ s.clauses ++ added_by event
  clauses_behind s Draw is = draw_clauses s (job_of o s) ∙ sym (append-nil s.clauses)
  clauses_behind s Import is = sym (append-nil s.clauses)
  clauses_behind s (Publish added) is = refl
  clauses_behind s (Settle p m added) is = settle_clauses s p m (mark_of s.marks p) added (ap added_by is)
  clauses_behind s (Cancel p) is = cancel_clauses s p (can_cancel o s p) ∙ sym (append-nil s.clauses)
  clauses_behind s (GiveUp p) is = give_up_clauses s p (mark_of s.marks p) s.cancel ∙ sym (append-nil s.clauses)

  -- ---- all entries

  all_answered : (s : State) (es : List Entry) → IsHistoryFrom o s es → All (AsksWithin (length o.assumed)) es
      → AreAnswered (length o.assumed) (length s.clauses) es
  all_answered s [] legal asks = tt
  all_answered s (e ∷ es) legal asks =
      let one : IsAnswered (length o.assumed) (length s.clauses) (entry e.seat e.event (reply_to o s e.event)) =
      says s e.seat e.event legal.0.kept_is (All-head (AsksWithin (length o.assumed)) e es asks) in
      let P : Reply → Type 0 = λ r. IsAnswered (length o.assumed) (length s.clauses) (entry e.seat e.event r) in
      let longer : length (state_after o s e.event).clauses ≡ length s.clauses + length (added_by e.event) =
      ap length (clauses_behind s e.event legal.0.kept_is) ∙ length-append s.clauses (added_by e.event) in (
        subst P (sym legal.0.reply_is) one,
        subst (λ (k : ℕ). AreAnswered (length o.assumed) k es) longer
            (all_answered (state_after o s e.event) es legal.1 (All-tail (AsksWithin (length o.assumed)) e es asks)),
      )

  all_appended : (s : State) (es : List Entry) → IsHistoryFrom o s es
      → s.clauses ++ flat_map (λ (e : Entry). added_by e.event) es ≡ (state_behind o s es).clauses
  all_appended s [] legal = append-nil s.clauses
  all_appended s (e ∷ es) legal =
      sym (append_assoc s.clauses (added_by e.event) (flat_map (λ (x : Entry). added_by x.event) es))
      ∙ ap (λ (xs : List (List ℕ)). xs ++ flat_map (λ (x : Entry). added_by x.event) es)
      (sym (clauses_behind s e.event legal.0.kept_is))
      ∙ all_appended (state_after o s e.event) es legal.1

pub shown_journal : (t : VerificationTask) (o : Opening) (s : State) (failures : List Failure) (journal : List Entry) (shown : Bool)
    (r : Findings) → IsEnd t o s failures journal shown r → IsShownJournal r
shown_journal t o s failures journal shown r e =
    let opens = e.board.opens in
    let planned : (p : ℕ) → Contains o.plan p → p < length o.assumed =
    λ p has. rw opens.width ((opens.plan.members p).0 has) in
    let props : length o.assumed ≡ r.sizes.props =
    ap length opens.assumed ∙ e.long ∙ sym (ap (λ (z : Sizes). z.props) e.made.sizes) in
    let answered : AreAnswered (length o.assumed) 0 journal = all_answered o planned (opened o) journal e.board.legal e.board.asks in
    record {
      answered = subst (λ (n : ℕ). AreAnswered n 0 r.journal) props
          (subst (λ (es : List Entry). AreAnswered (length o.assumed) 0 es) (sym e.made.journal_is) answered);
      appended = ap (flat_map (λ (x : Entry). added_by x.event)) e.made.journal_is
          ∙ all_appended o planned (opened o) journal e.board.legal ∙ ap (λ (x : State). x.clauses) e.board.state_is
          ∙ sym e.made.clauses_are;
    }
