-- One more entry of a journal.
use Rattle.std.proofs.Common.{◌≡◌, ℕ, List, [], ◌∷◌, ◌++◌, Option, Some, None, refl, sym, ◌∙◌, ap}
use Rattle.std.proofs.lemmas.List.{append_assoc, append-nil}
use Rattle.ja_base.proofs.JoinLemmas.{fresh_again}
use Rattle.store_core.specs.declared.journal.Opening.{Opening}
use Rattle.store_core.specs.declared.journal.Entry.{Entry}
use Rattle.store_core.specs.declared.journal.Event.{Event}
use Rattle.store_core.specs.declared.journal.Event.TheVariants.{Draw, Import, Publish, Settle, Cancel, GiveUp}
use Rattle.store_core.specs.declared.mark.Mark.{Mark}
use Rattle.store_core.specs.declared.mark.Mark.TheVariants as mark
use Rattle.store_core.specs.Steps.{State, kept, settled_clauses, mark_of, state_after}
use Rattle.store_core.specs.History.{IsEntry, IsHistoryFrom, state_behind, entry_of}
use Rattle.store_core.specs.Boards.{failed_by, failed_in}

pub behind_push : (o : Opening) (s : State) (es : List Entry) (e : Entry)
    → state_behind o s (es ++ e ∷ []) ≡ state_after o (state_behind o s es) e.event
behind_push o s [] e = refl
behind_push o s (x ∷ xs) e = behind_push o (state_after o s x.event) xs e

pub legal_push : (o : Opening) (s : State) (es : List Entry) (e : Entry) → IsHistoryFrom o s es
    → IsEntry o (state_behind o s es) e → IsHistoryFrom o s (es ++ e ∷ [])
legal_push o s [] e legal here = (here, tt)
legal_push o s (x ∷ xs) e legal here = (legal.0, legal_push o (state_after o s x.event) xs e legal.1 here)

pub failed_push : (es : List Entry) (e : Entry) → failed_in (es ++ e ∷ []) ≡ failed_in es ++ failed_by e.event e.reply
failed_push [] e = append-nil (failed_by e.event e.reply)
failed_push (x ∷ xs) e =
    ap (λ (ps : List ℕ). failed_by x.event x.reply ++ ps) (failed_push xs e)
    ∙ sym (append_assoc (failed_by x.event x.reply) (failed_in xs) (failed_by e.event e.reply))

settled_again : (had : Option Mark) (m : Mark) (clauses added : List (List ℕ))
    → settled_clauses had m clauses (settled_clauses had m clauses added) ≡ settled_clauses had m clauses added
settled_again (Some had) m clauses added = refl
settled_again None mark.Proved clauses added = fresh_again clauses added
settled_again None mark.Fails clauses added = refl
settled_again None (mark.Budget n) clauses added = refl
settled_again None mark.Cancelled clauses added = refl

-- an event that is kept is kept as it is
pub kept_again : (s : State) (event : Event) → kept s (kept s event) ≡ kept s event
kept_again s Draw = refl
kept_again s Import = refl
kept_again s (Publish added) = ap Publish (fresh_again s.clauses added)
kept_again s (Settle p m added) = ap (λ more. Settle p m more) (settled_again (mark_of s.marks p) m s.clauses added)
kept_again s (Cancel p) = refl
kept_again s (GiveUp p) = refl

pub entry_is : (o : Opening) (s : State) (seat : ℕ) (event : Event) → IsEntry o s (entry_of o s seat event)
entry_is o s seat event = record { kept_is = kept_again s event; reply_is = refl }
