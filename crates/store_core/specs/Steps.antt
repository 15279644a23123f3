-- One step of a board: what an event changes, and what is replied. An event is kept as its journal has it.
use Rattle.std.specs.Prelude.{ℕ, ◌+◌, ◌&&◌, Bool, List, [], ◌++◌, length, replicate, slice_get, slice_set, slice_index_or, Option, Some, None, is_none, is_some, if◌then◌else◌}
use Rattle.ja_base.specs.Literals.{bit}
use Rattle.ja_base.specs.ClauseSets.{fresh}
use Rattle.store_core.specs.declared.journal.Opening.{Opening}
use Rattle.store_core.specs.declared.journal.Event.{Event}
use Rattle.store_core.specs.declared.journal.Event.TheVariants.{Draw, Import, Publish, Settle, Cancel, GiveUp}
use Rattle.store_core.specs.declared.journal.Reply.{Reply}
use Rattle.store_core.specs.declared.journal.Reply.TheVariants as reply
use Rattle.store_core.specs.declared.mark.Mark.{Mark}
use Rattle.store_core.specs.declared.mark.Mark.TheVariants as mark
use Rattle.store_core.specs.MarkKinds.{is_failing}

-- the next place of the plan, the clauses, a mark or none for each property, and the property of the Cancel, if one stands
pub record State : Type 0 where
  pub place : ℕ
  pub clauses : List (List ℕ)
  pub marks : List (Option Mark)
  pub cancel : Option ℕ

-- the state in which a board begins
abbrev pub opened : Opening → State
opened o = record {
  place = 0;
  clauses = [];
  marks = replicate (length o.assumed) None;
  cancel = None;
}

-- the mark of a property, if it has one
abbrev pub mark_of : List (Option Mark) → ℕ → Option Mark
mark_of marks p = slice_index_or marks p None

-- the property that is drawn next: none at the end of the plan, and none where a Cancel stands
abbrev pub job_of : Opening → State → Option ℕ
job_of o s = if is_some s.cancel then None else slice_get o.plan s.place

-- a Cancel may stand for this property: the first one under fail-fast, for an assumed property that fails
abbrev pub can_cancel : Opening → State → ℕ → Bool
can_cancel o s p = o.fail_fast && bit o.assumed p && is_failing (mark_of s.marks p)
    && is_none s.cancel

-- the clauses that are appended where this mark is offered to a property that has that mark
abbrev pub settled_clauses : Option Mark → Mark → List (List ℕ) → List (List ℕ) → List (List ℕ)
settled_clauses (Some had) m clauses added = []
settled_clauses None mark.Proved clauses added = fresh clauses added
settled_clauses None mark.Fails clauses added = []
settled_clauses None (mark.Budget n) clauses added = []
settled_clauses None mark.Cancelled clauses added = []

-- the event as the journal keeps it: with just the clauses that it appends
abbrev pub kept : State → Event → Event
kept s Draw = Draw
kept s Import = Import
kept s (Publish added) = Publish (fresh s.clauses added)
kept s (Settle p m added) = Settle p m (settled_clauses (mark_of s.marks p) m s.clauses added)
kept s (Cancel p) = Cancel p
kept s (GiveUp p) = GiveUp p

-- the next place, where a property is drawn
abbrev pub drawn : Option ℕ → State → State
drawn None s = s
drawn (Some p) s = record s { place = s.place + 1 }

-- these clauses behind those that are there
abbrev pub appended : State → List (List ℕ) → State
appended s added = record s { clauses = s.clauses ++ added }

-- the mark, where the property has none
abbrev pub settled : Option Mark → State → ℕ → Mark → List (List ℕ) → State
settled (Some had) s p m added = s
settled None s p m added = record s {
  clauses = s.clauses ++ added;
  marks = slice_set s.marks p (Some m);
}

-- the Cancel, where it may stand
abbrev pub cancelled : Bool → State → ℕ → State
cancelled b s p = if b then record s { cancel = Some p } else s

-- the mark of a property that is given up, where it has none and a Cancel stands
abbrev pub given_up : Option Mark → Option ℕ → State → ℕ → State
given_up (Some had) cancel s p = s
given_up None None s p = s
given_up None (Some q) s p = record s { marks = slice_set s.marks p (Some mark.Cancelled) }

-- the state behind an event that is so kept
abbrev pub state_after : Opening → State → Event → State
state_after o s Draw = drawn (job_of o s) s
state_after o s Import = s
state_after o s (Publish added) = appended s added
state_after o s (Settle p m added) = settled (mark_of s.marks p) s p m added
state_after o s (Cancel p) = cancelled (can_cancel o s p) s p
state_after o s (GiveUp p) = given_up (mark_of s.marks p) s.cancel s p

-- the property, or that there is none
abbrev pub draw_reply : Option ℕ → ℕ → Reply
draw_reply None upto = reply.NoJob upto
draw_reply (Some p) upto = reply.Job p upto

-- that the mark was set, or which one stands
abbrev pub settle_reply : Option Mark → ℕ → Reply
settle_reply (Some had) upto = reply.Had had
settle_reply None upto = reply.Settled upto

-- that the property was given up, may go on, or which mark stands
abbrev pub give_up_reply : Option Mark → Option ℕ → Reply
give_up_reply (Some had) cancel = reply.Had had
give_up_reply None None = reply.GoOn
give_up_reply None (Some q) = reply.GaveUp

-- the reply to an event that is so kept
abbrev pub reply_to : Opening → State → Event → Reply
reply_to o s Draw = draw_reply (job_of o s) (length s.clauses)
reply_to o s Import = reply.Clauses (length s.clauses)
reply_to o s (Publish added) = reply.Added (length s.clauses + length added)
reply_to o s (Settle p m added) = settle_reply (mark_of s.marks p) (length s.clauses + length added)
reply_to o s (Cancel p) = if can_cancel o s p then reply.Cancelled else reply.NotNow
reply_to o s (GiveUp p) = give_up_reply (mark_of s.marks p) s.cancel

-- what an event with these clauses leads to, and what is replied
abbrev pub board_step : Opening → State → Event → State × Reply
board_step o s event = (state_after o s (kept s event), reply_to o s (kept s event))
