-- Why a mark stands is why it stands behind one more event.
use Rattle.std.proofs.Common.{◌≡◌, ℕ, List, [], ◌∷◌, ◌++◌, Option, Some, ◌∙◌, ap}
use Rattle.std.specs.Prelude.{All, Contains}
use Rattle.std.proofs.lemmas.List.{append_assoc}
use Rattle.ja_base.specs.Circuit.{Problem}
use Rattle.ja_base.specs.Failures.{Failure, IsShown}
use Rattle.store_core.specs.declared.journal.Entry.{Entry}
use Rattle.store_core.specs.declared.mark.Mark.{Mark}
use Rattle.store_core.specs.declared.mark.Mark.TheVariants.{Proved, Fails, Budget, Cancelled}
use Rattle.store_core.specs.Steps.{mark_of}
use Rattle.store_core.specs.Marks.{Evidence, HasCancel, IsGivenUp, IsJustified}

-- what a longer list covers
abbrev pub Grows : (Problem → List (List ℕ) → ℕ → Type 0) → Type 0
Grows covers = (t : Problem) (few many : List (List ℕ)) (p : ℕ) → covers t few p → All (Contains many) few → covers t many p

-- the property keeps its one failure
abbrev pub KeepsShown : Problem → List Failure → List Failure → ℕ → Type 0
KeepsShown t failures more p = IsShown t failures p → IsShown t more p

-- marks that say that a property fails stay
abbrev pub KeepFails : List (Option Mark) → List (Option Mark) → Type 0
KeepFails marks more = (q : ℕ) → mark_of marks q ≡ Some Fails → mark_of more q ≡ Some Fails

longer : (journal before : List Entry) (e : Entry) (after : List Entry) (last : Entry) → journal ≡ before ++ e ∷ after
    → journal ++ last ∷ [] ≡ before ++ e ∷ (after ++ last ∷ [])
longer journal before e after last is =
    ap (λ (es : List Entry). es ++ last ∷ []) is ∙ append_assoc before (e ∷ after) (last ∷ [])

pub cancel_later : (journal : List Entry) (q : ℕ) (last : Entry) → HasCancel journal q → HasCancel (journal ++ last ∷ []) q
cancel_later journal q last h = record {
  before = h.before;
  entry = h.entry;
  after = h.after ++ last ∷ [];
  journal_is = longer journal h.before h.entry h.after last h.journal_is;
  event_is = h.event_is;
  reply_is = h.reply_is;
}

-- the evidence behind one more entry
abbrev pub later : Evidence → List (List ℕ) → List Failure → List (Option Mark) → Entry → Evidence
later e clauses failures marks last =
    record {
      task = e.task;
      opening = e.opening;
      clauses = clauses;
      failures = failures;
      marks = marks;
      journal = e.journal ++ last ∷ [];
    }

given_up_later : (e : Evidence) (clauses : List (List ℕ)) (failures : List Failure) (marks : List (Option Mark)) (last : Entry)
    (p : ℕ)
    → KeepFails e.marks marks → IsGivenUp e p → IsGivenUp (later e clauses failures marks last) p
given_up_later e clauses failures marks last p keeps h = record {
  before = h.before;
  entry = h.entry;
  after = h.after ++ last ∷ [];
  journal_is = longer e.journal h.before h.entry h.after last h.journal_is;
  event_is = h.event_is;
  reply_is = h.reply_is;
  cause = h.cause;
  cancel = h.cancel;
  assumed = h.assumed;
  fails = keeps h.cause h.fails;
}

pub justified_later : (covers : Problem → List (List ℕ) → ℕ → Type 0) (bound : Problem → ℕ) → Grows covers
    → (e : Evidence) (clauses : List (List ℕ)) (failures : List Failure) (marks : List (Option Mark)) (last : Entry)
    → All (Contains clauses) e.clauses → KeepFails e.marks marks → (p : ℕ) → KeepsShown e.task e.failures failures p
    → (m : Mark) → IsJustified covers bound e p m → IsJustified covers bound (later e clauses failures marks last) p m
justified_later covers bound grows e clauses failures marks last more keeps p shows Proved h =
    grows e.task e.clauses clauses p h more
justified_later covers bound grows e clauses failures marks last more keeps p shows Fails h = shows h
justified_later covers bound grows e clauses failures marks last more keeps p shows (Budget n) h = record { limit = h.limit }
justified_later covers bound grows e clauses failures marks last more keeps p shows Cancelled h =
    given_up_later e clauses failures marks last p keeps h
