-- What the lines of a journal say.
use Rattle.std.specs.Prelude.{◌≡◌, ℕ, ◌+◌, ◌<◌, ◌^◌, ⊤, Bool, true, false, List, [], ◌∷◌, ◌++◌, length, codes, decimal, Option, Some, None, IfSome}
use Rattle.store_core.specs.declared.journal.Event.{Event}
use Rattle.store_core.specs.declared.journal.Event.TheVariants.{Draw, Import, Publish, Settle, Cancel, GiveUp}
use Rattle.store_core.specs.declared.journal.Reply.{Reply}
use Rattle.store_core.specs.declared.journal.Reply.TheVariants as reply
use Rattle.store_core.specs.declared.journal.Entry.{Entry}
use Rattle.store_core.specs.declared.mark.Mark.{Mark}
use Rattle.store_core.specs.declared.mark.Mark.TheVariants.{Proved, Fails, Budget, Cancelled}
use Rattle.report.specs.declared.what.What.{What}
use Rattle.report.specs.declared.what.What.TheVariants.{Draws, DrawsNone, Imports, Publishes, Settles, SettlesHad, Cancels, CancelsNot, GivesUp, GoesOn, GivesUpHad}

-- ---- what an event and its reply say

abbrev pub draw_what : Reply → Option What
draw_what (reply.Job p upto) = Some (Draws p)
draw_what (reply.NoJob upto) = Some DrawsNone
draw_what r = None

abbrev pub import_what : Reply → Option What
import_what (reply.Clauses upto) = Some Imports
import_what r = None

abbrev pub publish_what : Reply → Option What
publish_what (reply.Added upto) = Some Publishes
publish_what r = None

abbrev pub settle_what : ℕ → Mark → Reply → Option What
settle_what p m (reply.Settled upto) = Some (Settles p m)
settle_what p m (reply.Had had) = Some (SettlesHad p m had)
settle_what p m r = None

abbrev pub cancel_what : ℕ → Reply → Option What
cancel_what p reply.Cancelled = Some (Cancels p)
cancel_what p reply.NotNow = Some (CancelsNot p)
cancel_what p r = None

abbrev pub give_up_what : ℕ → Reply → Option What
give_up_what p reply.GaveUp = Some (GivesUp p)
give_up_what p reply.GoOn = Some (GoesOn p)
give_up_what p (reply.Had had) = Some (GivesUpHad p had)
give_up_what p r = None

-- what the event and its reply say, if the one is a reply to the other
abbrev pub what_of : Event → Reply → Option What
what_of Draw r = draw_what r
what_of Import r = import_what r
what_of (Publish added) r = publish_what r
what_of (Settle p m added) r = settle_what p m r
what_of (Cancel p) r = cancel_what p r
what_of (GiveUp p) r = give_up_what p r

-- the clauses that the event appended
abbrev pub added_by : Event → List (List ℕ)
added_by Draw = []
added_by Import = []
added_by (Publish added) = added
added_by (Settle p m added) = added
added_by (Cancel p) = []
added_by (GiveUp p) = []

-- the number of clauses behind the event, before which n stood; a reply that does not tell it leaves it so
abbrev pub count_behind : ℕ → Reply → ℕ
count_behind n (reply.Job p upto) = upto
count_behind n (reply.NoJob upto) = upto
count_behind n (reply.Clauses upto) = upto
count_behind n (reply.Added upto) = upto
count_behind n (reply.Settled upto) = upto
count_behind n r = n

-- ---- what is said

-- clauses may be appended: by a Publish, and by a proof that settled its property
abbrev pub may_append : What → Bool
may_append Publishes = true
may_append (Settles p Proved) = true
may_append w = false

-- the property that is spoken of, if one is
abbrev pub property_of : What → Option ℕ
property_of (Draws p) = Some p
property_of DrawsNone = None
property_of Imports = None
property_of Publishes = None
property_of (Settles p m) = Some p
property_of (SettlesHad p m had) = Some p
property_of (Cancels p) = Some p
property_of (CancelsNot p) = Some p
property_of (GivesUp p) = Some p
property_of (GoesOn p) = Some p
property_of (GivesUpHad p had) = Some p

-- a mark with a budget below 2^64
abbrev pub IsSmallMark : Mark → Type 0
IsSmallMark Proved = ⊤
IsSmallMark Fails = ⊤
IsSmallMark (Budget n) = n < 2 ^ 64
IsSmallMark Cancelled = ⊤

-- the marks have budgets below 2^64
abbrev pub HasSmallMarks : What → Type 0
HasSmallMarks (Settles p m) = IsSmallMark m
HasSmallMarks (SettlesHad p m had) = IsSmallMark m × IsSmallMark had
HasSmallMarks (GivesUpHad p had) = IsSmallMark had
HasSmallMarks w = ⊤

-- ---- the words

-- how a property is named
abbrev pub property_word : ℕ → List ℕ
property_word p = 98 ∷ decimal p

abbrev pub mark_words : Mark → List ℕ
mark_words Proved = codes "proved"
mark_words Fails = codes "fails"
mark_words (Budget n) = codes "unknown budget " ++ decimal n
mark_words Cancelled = codes "unknown cancelled"

-- the property, if one is named
abbrev pub property_words : Option ℕ → List ℕ
property_words None = []
property_words (Some p) = property_word p

-- what stands in front of the property
abbrev pub what_head : What → List ℕ
what_head (Draws p) = codes "draw "
what_head DrawsNone = codes "draw none"
what_head Imports = codes "import"
what_head Publishes = codes "publish"
what_head (Settles p m) = codes "settle "
what_head (SettlesHad p m had) = codes "settle "
what_head (Cancels p) = codes "cancel "
what_head (CancelsNot p) = codes "cancel "
what_head (GivesUp p) = codes "giveup "
what_head (GoesOn p) = codes "giveup "
what_head (GivesUpHad p had) = codes "giveup "

-- what stands behind it
abbrev pub what_tail : What → List ℕ
what_tail (Draws p) = []
what_tail DrawsNone = []
what_tail Imports = []
what_tail Publishes = []
what_tail (Settles p m) = 32 ∷ mark_words m
what_tail (SettlesHad p m had) = 32 ∷ mark_words m ++ codes " had " ++ mark_words had
what_tail (Cancels p) = codes " yes"
what_tail (CancelsNot p) = codes " no"
what_tail (GivesUp p) = codes " yes"
what_tail (GoesOn p) = codes " goon"
what_tail (GivesUpHad p had) = codes " had " ++ mark_words had

abbrev pub what_words : What → List ℕ
what_words w = what_head w ++ property_words (property_of w) ++ what_tail w

-- the words of an entry, if its event and reply say something
abbrev pub said_words : Option What → List ℕ
said_words None = []
said_words (Some w) = what_words w

-- the seat, what it asked and got, and the number of clauses behind the entry
abbrev pub entry_words : Entry → ℕ → List ℕ
entry_words e upto = decimal e.seat ++ 32 ∷ said_words (what_of e.event e.reply) ++ codes " at " ++ decimal upto

-- ---- entries that a journal may have

-- The event and the reply say something, of a property below so many. The reply counts the clauses right, n of which stood
-- before.
pub record IsAnswered (props n : ℕ) (e : Entry) : Type 0 where
  pub what : What
  pub says : what_of e.event e.reply ≡ Some what
  pub within : IfSome (property_of what) (λ p. p < props)
  pub count : count_behind n e.reply ≡ n + length (added_by e.event)
  pub appends : may_append what ≡ false → added_by e.event ≡ []

-- each entry is answered, where n clauses stood before the first
abbrev pub AreAnswered : ℕ → ℕ → List Entry → Type 0
AreAnswered props n [] = ⊤
AreAnswered props n (e ∷ es) = IsAnswered props n e × AreAnswered props (n + length (added_by e.event)) es

-- the entry's numbers are those of the types in which readers hold them
pub record IsSmallEntry (e : Entry) : Type 0 where
  pub seat : e.seat < 2 ^ 32
  pub marks : IfSome (what_of e.event e.reply) HasSmallMarks
