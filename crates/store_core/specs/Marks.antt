-- Why a mark stands.
use Rattle.std.specs.Prelude.{◌≡◌, ℕ, true, Option, Some, List, ◌∷◌, ◌++◌}
use Rattle.ja_base.specs.Literals.{bit}
use Rattle.ja_base.specs.Circuit.{Problem}
use Rattle.ja_base.specs.Failures.{Failure, IsShown}
use Rattle.store_core.specs.declared.journal.Opening.{Opening}
use Rattle.store_core.specs.declared.journal.Event.TheVariants.{Cancel, GiveUp}
use Rattle.store_core.specs.declared.journal.Reply.TheVariants as reply
use Rattle.store_core.specs.declared.journal.Entry.{Entry}
use Rattle.store_core.specs.declared.mark.Mark.{Mark}
use Rattle.store_core.specs.declared.mark.Mark.TheVariants.{Proved, Fails, Budget, Cancelled}
use Rattle.store_core.specs.Steps.{mark_of}

-- what a mark is judged by
pub record Evidence : Type 0 where
  pub task : Problem
  pub opening : Opening
  pub clauses : List (List ℕ)
  pub failures : List Failure
  pub marks : List (Option Mark)
  pub journal : List Entry

-- a Cancel of this property stands in the journal
pub record HasCancel (journal : List Entry) (q : ℕ) : Type 0 where
  pub before : List Entry
  pub entry : Entry
  pub after : List Entry
  pub journal_is : journal ≡ before ++ entry ∷ after
  pub event_is : entry.event ≡ Cancel q
  pub reply_is : entry.reply ≡ reply.Cancelled

-- the property was given up, behind the Cancel of an assumed property that fails
pub record IsGivenUp (e : Evidence) (p : ℕ) : Type 0 where
  pub before : List Entry
  pub entry : Entry
  pub after : List Entry
  pub journal_is : e.journal ≡ before ++ entry ∷ after
  pub event_is : entry.event ≡ GiveUp p
  pub reply_is : entry.reply ≡ reply.GaveUp
  pub cause : ℕ
  pub cancel : HasCancel before cause
  pub assumed : bit e.opening.assumed cause ≡ true
  pub fails : mark_of e.marks cause ≡ Some Fails

-- the units that were spent are the limit; `bound` is a budget that suffices for the task
pub record IsSpent (bound : Problem → ℕ) (e : Evidence) (n : ℕ) : Type 0 where
  pub limit : e.opening.limit ≡ Some n

-- the mark of this property is right: `covers` says what a list covers
abbrev pub IsJustified : (Problem → List (List ℕ) → ℕ → Type 0) → (Problem → ℕ) → Evidence → ℕ
    → Mark → Type 0
IsJustified covers bound e p Proved = covers e.task e.clauses p
IsJustified covers bound e p Fails = IsShown e.task e.failures p
IsJustified covers bound e p (Budget n) = IsSpent bound e n
IsJustified covers bound e p Cancelled = IsGivenUp e p

-- each mark is right
abbrev pub AreJustified : (Problem → List (List ℕ) → ℕ → Type 0) → (Problem → ℕ) → Evidence → Type 0
AreJustified covers bound e = (p : ℕ) (m : Mark) → mark_of e.marks p ≡ Some m
    → IsJustified covers bound e p m
