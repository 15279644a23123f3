-- The lines of a journal as they are read, and the forms of them.
use Rattle.std.specs.Prelude.{◌≡◌, ℕ, ◌-◌, ◌<◌, ◌^◌, ◌==◌, ◌&&◌, ◌||◌, Bool, true, not, nat_le, nat_lt, List, [], ◌∷◌, ◌++◌, length, take, drop, codes, decimal, Option, Some, None, IfSome}
use Rattle.ja_text.specs.Lines.{space_at, word_at}
use Rattle.store_core.specs.declared.journal.Event.{Event}
use Rattle.store_core.specs.declared.journal.Event.TheVariants.{Draw, Import, Publish, Settle, Cancel, GiveUp}
use Rattle.store_core.specs.declared.journal.Reply.{Reply}
use Rattle.store_core.specs.declared.journal.Reply.TheVariants as reply
use Rattle.store_core.specs.declared.journal.Entry.{Entry}
use Rattle.store_core.specs.declared.mark.Mark.{Mark}
use Rattle.report.specs.declared.what.Said.{Said}
use Rattle.report.specs.declared.what.What.{What}
use Rattle.report.specs.declared.what.What.TheVariants.{Draws, DrawsNone, Imports, Publishes, Settles, SettlesHad, Cancels, CancelsNot, GivesUp, GoesOn, GivesUpHad}
use Rattle.report.specs.Entries.{may_append, property_of, HasSmallMarks, what_words}
use Rattle.report.specs.Reports.{entry_lines}
use Rattle.report.specs.Forms.{Form, line_form, times}
use Rattle.report.specs.Lines.{ended, where_true}
use Rattle.report.specs.Tokens.{◌>>=◌, small_at, small_behind, mark_at}

-- ---- reading

-- a property, by its name
unfoldable pub property_at : List ℕ → Option (ℕ × List ℕ)
property_at bytes = small_behind (codes "b") bytes

-- what is behind ` had `: a mark
unfoldable pub had_at : List ℕ → Option (Mark × List ℕ)
had_at bytes = do
  rest ← word_at (codes " had ") bytes
  mark_at rest

-- what a draw gave
abbrev pub draw_behind : Option (List ℕ) → Option (ℕ × List ℕ) → Option (What × List ℕ)
draw_behind (Some rest) property = Some (DrawsNone, rest)
draw_behind None (Some p) = Some (Draws p.0, p.1)
draw_behind None None = None

unfoldable pub draw_at : List ℕ → Option (What × List ℕ)
draw_at bytes = draw_behind (word_at (codes "none") bytes) (property_at bytes)

-- the mark that stays, if one is named
abbrev pub settle_behind : ℕ → Mark × List ℕ → Option (Mark × List ℕ) → Option (What × List ℕ)
settle_behind p m None = Some (Settles p m.0, m.1)
settle_behind p m (Some had) = Some (SettlesHad p m.0 had.0, had.1)

unfoldable pub settle_at : List ℕ → Option (What × List ℕ)
settle_at bytes = do
  p ← property_at bytes
  rest ← space_at p.1
  m ← mark_at rest
  settle_behind p.0 m (had_at m.1)

abbrev pub cancel_behind : ℕ → Option (List ℕ) → Option (List ℕ) → Option (What × List ℕ)
cancel_behind p (Some rest) not = Some (Cancels p, rest)
cancel_behind p None (Some rest) = Some (CancelsNot p, rest)
cancel_behind p None None = None

unfoldable pub cancel_at : List ℕ → Option (What × List ℕ)
cancel_at bytes = do
  p ← property_at bytes
  cancel_behind p.0 (word_at (codes " yes") p.1) (word_at (codes " no") p.1)

abbrev pub give_up_behind : ℕ → Option (List ℕ) → Option (List ℕ) → Option (Mark × List ℕ) → Option (What × List ℕ)
give_up_behind p (Some rest) on had = Some (GivesUp p, rest)
give_up_behind p None (Some rest) had = Some (GoesOn p, rest)
give_up_behind p None None (Some had) = Some (GivesUpHad p had.0, had.1)
give_up_behind p None None None = None

unfoldable pub give_up_at : List ℕ → Option (What × List ℕ)
give_up_at bytes = do
  p ← property_at bytes
  give_up_behind p.0 (word_at (codes " yes") p.1) (word_at (codes " goon") p.1) (had_at p.1)

-- what is behind the event that stands there
abbrev pub first_event : Option (List ℕ) → Option (List ℕ) → Option (List ℕ) → Option (List ℕ) → Option (List ℕ) → Option (List ℕ)
    → Option (What × List ℕ)
first_event (Some rest) import publish settle cancel give = draw_at rest
first_event None (Some rest) publish settle cancel give = Some (Imports, rest)
first_event None None (Some rest) settle cancel give = Some (Publishes, rest)
first_event None None None (Some rest) cancel give = settle_at rest
first_event None None None None (Some rest) give = cancel_at rest
first_event None None None None None (Some rest) = give_up_at rest
first_event None None None None None None = None

unfoldable pub what_at : List ℕ → Option (What × List ℕ)
what_at bytes =
    first_event (word_at (codes "draw ") bytes) (word_at (codes "import") bytes) (word_at (codes "publish") bytes)
    (word_at (codes "settle ") bytes) (word_at (codes "cancel ") bytes) (word_at (codes "giveup ") bytes)

-- the seat, what is said, and the number of clauses behind the entry
unfoldable pub said_of : List ℕ → Option Said
said_of line = do
  seat ← small_at line
  rest ← space_at seat.1
  what ← what_at rest
  count ← small_behind (codes " at ") what.1
  ended (record { seat = seat.0; what = what.0; upto = count.0 }, count.1)

-- ---- what is written

abbrev pub said_words : Said → List ℕ
said_words s = decimal s.seat ++ 32 ∷ what_words s.what ++ codes " at " ++ decimal s.upto

-- its numbers are those that a reader holds
pub record IsSmallSaid (s : Said) : Type 0 where
  pub seat : s.seat < 2 ^ 32
  pub property : IfSome (property_of s.what) (λ p. p < 2 ^ 32)
  pub marks : HasSmallMarks s.what
  pub upto : s.upto < 2 ^ 32

-- ---- which lines a journal may have

-- the property, if one is spoken of, is below so many
abbrev pub is_within : ℕ → Option ℕ → Bool
is_within props None = true
is_within props (Some p) = nat_lt p props

-- The number of clauses fits between those before and all of them: it rises only where clauses may be appended, and behind the
-- last entry it is that of all. This entry and those behind it are so many.
abbrev pub is_counted : ℕ → ℕ → ℕ → Said → Bool
is_counted total from left s =
    nat_le from s.upto && nat_le s.upto total && (may_append s.what || s.upto == from) && (not (left == 1) || s.upto == total)

abbrev pub is_due : ℕ → ℕ → ℕ → ℕ → Said → Bool
is_due props total from left s = is_within props (property_of s.what) && is_counted total from left s

-- what a line says, where that is due
unfoldable pub due_of : ℕ → ℕ → ℕ → ℕ → List ℕ → Option Said
due_of props total from left line = do
  s ← said_of line
  where_true (is_due props total from left s) (Some s)

-- a line that is due, with numbers that a reader holds
pub record IsDueSaid (props total from left : ℕ) (s : Said) : Type 0 where
  pub small : IsSmallSaid s
  pub due : is_due props total from left s ≡ true

-- a line, where so many clauses of all stood before it, and it is one of so many that are left
abbrev pub said_form : ℕ → ℕ → ℕ × ℕ → Form Said
said_form props total d = line_form (IsDueSaid props total d.0 d.1) said_words

-- what a line leads to
abbrev pub said_next : ℕ × ℕ → Said → ℕ × ℕ
said_next d s = (s.upto, d.1 - 1)

-- so many lines
abbrev pub saids_form : ℕ → ℕ → ℕ → Form (List Said)
saids_form props total count = times (said_form props total) said_next count (0, count)

-- ---- the entries of these lines

abbrev pub event_of : What → List (List ℕ) → Event
event_of (Draws p) added = Draw
event_of DrawsNone added = Draw
event_of Imports added = Import
event_of Publishes added = Publish added
event_of (Settles p m) added = Settle p m added
event_of (SettlesHad p m had) added = Settle p m added
event_of (Cancels p) added = Cancel p
event_of (CancelsNot p) added = Cancel p
event_of (GivesUp p) added = GiveUp p
event_of (GoesOn p) added = GiveUp p
event_of (GivesUpHad p had) added = GiveUp p

abbrev pub reply_of : What → ℕ → Reply
reply_of (Draws p) upto = reply.Job p upto
reply_of DrawsNone upto = reply.NoJob upto
reply_of Imports upto = reply.Clauses upto
reply_of Publishes upto = reply.Added upto
reply_of (Settles p m) upto = reply.Settled upto
reply_of (SettlesHad p m had) upto = reply.Had had
reply_of (Cancels p) upto = reply.Cancelled
reply_of (CancelsNot p) upto = reply.NotNow
reply_of (GivesUp p) upto = reply.GaveUp
reply_of (GoesOn p) upto = reply.GoOn
reply_of (GivesUpHad p had) upto = reply.Had had

-- the clauses from one place to another
abbrev pub between : List (List ℕ) → ℕ → ℕ → List (List ℕ)
between clauses from upto = take (upto - from) (drop from clauses)

-- the entry of a line, before which so many clauses stood
abbrev pub entry_of : List (List ℕ) → ℕ → Said → Entry
entry_of clauses from s =
    record { seat = s.seat; event = event_of s.what (between clauses from s.upto); reply = reply_of s.what s.upto }

abbrev pub entries_of : List (List ℕ) → ℕ → List Said → List Entry
entries_of clauses from [] = []
entries_of clauses from (s ∷ ss) = entry_of clauses from s ∷ entries_of clauses s.upto ss

-- the entries of so many lines that fit these clauses
pub record AreEntries (props : ℕ) (clauses : List (List ℕ)) (count : ℕ) (entries : List Entry) : Type 0 where
  pub lines : List Said
  pub fit : (saids_form props (length clauses) count).Fits lines
  pub are : entries ≡ entries_of clauses 0 lines

abbrev pub entries_form : ℕ → List (List ℕ) → ℕ → Form (List Entry)
entries_form props clauses count = record { Fits = AreEntries props clauses count; text = entry_lines 0 }
