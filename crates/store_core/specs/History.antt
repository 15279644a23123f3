-- Journals that a board may have: each entry has its event as it is kept, and the reply to it in the state before.
use Rattle.std.specs.Prelude.{◌≡◌, ℕ, ⊤, List, [], ◌∷◌}
use Rattle.store_core.specs.declared.journal.Opening.{Opening}
use Rattle.store_core.specs.declared.journal.Event.{Event}
use Rattle.store_core.specs.declared.journal.Entry.{Entry}
use Rattle.store_core.specs.Steps.{State, opened, kept, state_after, reply_to}

-- the event is as it is kept in this state, and the reply is the one to it
pub record IsEntry (o : Opening) (s : State) (e : Entry) : Type 0 where
  pub kept_is : kept s e.event ≡ e.event
  pub reply_is : e.reply ≡ reply_to o s e.event

-- the entries are those of a board, one after the other, from this state on
abbrev pub IsHistoryFrom : Opening → State → List Entry → Type 0
IsHistoryFrom o s [] = ⊤
IsHistoryFrom o s (e ∷ es) = IsEntry o s e × IsHistoryFrom o (state_after o s e.event) es

-- the state behind these entries
abbrev pub state_behind : Opening → State → List Entry → State
state_behind o s [] = s
state_behind o s (e ∷ es) = state_behind o (state_after o s e.event) es

-- the journal of a board that begins with this opening
abbrev pub IsLegalHistory : Opening → List Entry → Type 0
IsLegalHistory o journal = IsHistoryFrom o (opened o) journal

-- the state of a board behind its journal
abbrev pub board_after : Opening → List Entry → State
board_after o journal = state_behind o (opened o) journal

-- the entry of an event in this state
abbrev pub entry_of : Opening → State → ℕ → Event → Entry
entry_of o s seat event = record {
  seat = seat;
  event = kept s event;
  reply = reply_to o s (kept s event);
}
