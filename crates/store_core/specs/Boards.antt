-- What contracts see of a board, and what its type says of it.
use Rattle.std.specs.Prelude.{◌≡◌, ◌≢◌, ◌↔◌, ℕ, ◌<◌, true, Option, Some, None, IfSome, List, [], ◌∷◌, ◌++◌, map, length, All, AllPairs, Contains}
use Rattle.ja_base.specs.Literals.{bit}
use Rattle.ja_base.specs.Circuit.{Problem}
use Rattle.ja_base.specs.Runs.{Trace}
use Rattle.ja_base.specs.Failures.{Failure}
use Rattle.store_core.specs.declared.journal.Opening.{Opening}
use Rattle.store_core.specs.declared.journal.Event.{Event}
use Rattle.store_core.specs.declared.journal.Event.TheVariants.{Draw, Import, Publish, Settle, Cancel, GiveUp}
use Rattle.store_core.specs.declared.journal.Reply.{Reply}
use Rattle.store_core.specs.declared.journal.Reply.TheVariants as reply
use Rattle.store_core.specs.declared.journal.Entry.{Entry}
use Rattle.store_core.specs.declared.mark.Mark.TheVariants as mark
use Rattle.store_core.specs.Steps.{State, kept, mark_of, state_after}
use Rattle.store_core.specs.History.{IsLegalHistory, board_after, entry_of}
use Rattle.store_core.specs.Marks.{Evidence, AreJustified, HasCancel}

-- the opening, the state, the closed list, the failures in the order of settling, and the journal
pub record BoardValue (C V : Type 0) : Type 0 where
  pub opening : Opening
  pub state : State
  pub list : C
  pub failures : List V
  pub journal : List Entry

-- the numbers below n, each once, in any order
pub record ListsEach (n : ℕ) (plan : List ℕ) : Type 0 where
  pub once : AllPairs (λ a b. a ≢ b) plan
  pub members : (p : ℕ) → Contains plan p ↔ (p < n)

-- the opening is one of this task
pub record Opens (t : Problem) (o : Opening) : Type 0 where
  pub assumed : o.assumed ≡ t.assumed
  pub width : length o.assumed ≡ length t.circuit.bads
  pub plan : ListsEach (length t.circuit.bads) o.plan

-- the property that an entry settles as failing, if it does
abbrev pub failed_by : Event → Reply → List ℕ
failed_by (Settle p mark.Fails added) (reply.Settled upto) = p ∷ []
failed_by event reply = []

-- the properties that were settled as failing, in order
abbrev pub failed_in : List Entry → List ℕ
failed_in [] = []
failed_in (e ∷ es) = failed_by e.event e.reply ++ failed_in es

-- the property that an event asks about, if it does
abbrev pub asked_of : Event → Option ℕ
asked_of Draw = None
asked_of Import = None
asked_of (Publish added) = None
asked_of (Settle p m added) = Some p
asked_of (Cancel p) = Some p
asked_of (GiveUp p) = Some p

-- the entry asks about no property, or about one below n
abbrev pub AsksWithin : ℕ → Entry → Type 0
AsksWithin n e = IfSome (asked_of e.event) (λ p. p < n)

-- a failure as plain data, by what its type says of it
abbrev pub shown : {V : Type 0} → (V → ℕ) → (V → Trace) → List V → List Failure
shown property stimulus failures =
    map (λ v. record { property = property v; stimulus = stimulus v }) failures

-- what the marks of a board are judged by
abbrev pub evidence : Problem → Opening → State → List Failure → List Entry → Evidence
evidence t o s failures journal =
    record {
      task = t;
      opening = o;
      clauses = s.clauses;
      failures = failures;
      marks = s.marks;
      journal = journal;
    }

-- a Cancel stands, for an assumed property that fails, and its entry is in the journal
pub record IsStopped (o : Opening) (s : State) (journal : List Entry) (q : ℕ) : Type 0 where
  pub cancel : HasCancel journal q
  pub assumed : bit o.assumed q ≡ true
  pub fails : mark_of s.marks q ≡ Some mark.Fails

-- The state is the one behind the journal, which is legal and asks about properties of the task alone; each mark is right; and
-- the failures are those of the properties that were settled as failing, in that order. Of what a list covers `covers` tells, and `bound` is a sufficient budget.
pub record IsBoard (covers : Problem → List (List ℕ) → ℕ
    → Type 0) (bound : Problem → ℕ) (t : Problem) (o : Opening) (s : State)
    (failures : List Failure) (journal : List Entry) : Type 0 where
  pub opens : Opens t o
  pub legal : IsLegalHistory o journal
  pub state_is : board_after o journal ≡ s
  pub asks : All (AsksWithin (length o.assumed)) journal
  pub width : length s.marks ≡ length t.circuit.bads
  pub justified : AreJustified covers bound (evidence t o s failures journal)
  pub stopped : (q : ℕ) → s.cancel ≡ Some q → IsStopped o s journal q
  pub failures_are : map (λ (f : Failure). f.property) failures ≡ failed_in journal
  pub failures_fail : All (λ (f : Failure). mark_of s.marks f.property ≡ Some mark.Fails) failures

-- the journal has one more entry, whatever it says
pub record IsLonger (before after : List Entry) : Type 0 where
  pub last : Entry
  pub is : after ≡ before ++ last ∷ []

-- This event of this seat happened: the state and the journal are those behind it, and opening and task stay. `task` tells the
-- task of a list.
pub record Did {C V : Type 0} (task : C → Problem) (before after : BoardValue C V) (seat : ℕ)
    (event : Event) : Type 0 where
  pub opening_is : after.opening ≡ before.opening
  pub state_is : after.state ≡ state_after before.opening before.state (kept before.state event)
  pub journal_is : after.journal ≡ before.journal
      ++ entry_of before.opening before.state seat event ∷ []
  pub task_is : task after.list ≡ task before.list

-- the list has the clauses of the state, and the board's task
pub record IsViewOf {C V : Type 0} (clauses : C → List (List ℕ)) (task : C → Problem)
    (board : BoardValue C V) (list : C) : Type 0 where
  pub clauses_are : clauses list ≡ board.state.clauses
  pub task_is : task list ≡ task board.list
