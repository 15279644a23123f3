-- What is offered as a judgement of a property, and what is handed out.
use Rattle.std.specs.Prelude.{ℕ, ⊤, List, [], ◌∷◌, Option, Some, None}
use Rattle.store_core.specs.declared.answers.Drawn.{Drawn}
use Rattle.store_core.specs.declared.answers.Drawn.TheVariants.{Job, NoJob}
use Rattle.store_core.specs.declared.answers.Judged.{Judged}
use Rattle.store_core.specs.declared.answers.Judged.TheVariants as judged
use Rattle.store_core.specs.declared.journal.Event.{Event}
use Rattle.store_core.specs.declared.journal.Event.TheVariants.{Settle}
use Rattle.store_core.specs.declared.mark.Mark.{Mark}
use Rattle.store_core.specs.declared.mark.Mark.TheVariants as mark

-- the list that is handed out
abbrev pub view_of : {C : Type 0} → Drawn C → C
view_of (Job p view) = view
view_of (NoJob view) = view

-- the property that is drawn, if one is
abbrev pub drawn_job : {C : Type 0} → Drawn C → Option ℕ
drawn_job (Job p view) = Some p
drawn_job (NoJob view) = None

-- the fact holds of the property that is drawn, if one is
abbrev pub IfJob : {C : Type 0} → Drawn C → (ℕ → Type 0) → Type 0
IfJob (Job p view) P = P p
IfJob (NoJob view) P = ⊤

-- the fact holds of the list, if the property was proved
abbrev pub IfProved : {C V : Type 0} → Judged C V → (C → Type 0) → Type 0
IfProved (judged.Proved list) P = P list
IfProved (judged.Fails v) P = ⊤
IfProved (judged.Spent n) P = ⊤

-- the fact holds of the failure, if the property fails
abbrev pub IfFails : {C V : Type 0} → Judged C V → (V → Type 0) → Type 0
IfFails (judged.Proved list) P = ⊤
IfFails (judged.Fails v) P = P v
IfFails (judged.Spent n) P = ⊤

-- the fact holds of the units, if the budget was spent
abbrev pub IfSpent : {C V : Type 0} → Judged C V → (ℕ → Type 0) → Type 0
IfSpent (judged.Proved list) P = ⊤
IfSpent (judged.Fails v) P = ⊤
IfSpent (judged.Spent n) P = P n

-- the mark that is offered
abbrev pub offered : {C V : Type 0} → Judged C V → Mark
offered (judged.Proved list) = mark.Proved
offered (judged.Fails v) = mark.Fails
offered (judged.Spent n) = mark.Budget n

-- the event that settles the property so; `clauses` tells the clauses of a list
abbrev pub settle_event : {C V : Type 0} → (C → List (List ℕ)) → ℕ → Judged C V → Event
settle_event clauses p (judged.Proved list) = Settle p mark.Proved (clauses list)
settle_event clauses p (judged.Fails v) = Settle p mark.Fails []
settle_event clauses p (judged.Spent n) = Settle p (mark.Budget n) []

-- the failure that is kept: where the property had no mark
abbrev pub kept_failure : {C V : Type 0} → Option Mark → Judged C V → List V
kept_failure (Some had) j = []
kept_failure None (judged.Proved list) = []
kept_failure None (judged.Fails v) = v ∷ []
kept_failure None (judged.Spent n) = []
