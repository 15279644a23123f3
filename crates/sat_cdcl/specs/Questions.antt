-- What a question without a log learns, and what its turns leave.
use Rattle.std.specs.Prelude.{◌≡◌, ℕ, ◌+◌, ◌-◌, ◌^◌, ◌<◌, ◌≤◌, Bool, false, nat_lt, if◌then◌else◌, List, length, slice_get, Option, Some, All, Contains, ⊤}
use Rattle.ja_base.specs.Literals.{bit}
use Rattle.ja_base.specs.Clauses.{IsBelow}
use Rattle.ja_base.specs.declared.meter.Meter.{Meter}
use Rattle.refute_check.specs.Checked.{Follows, FollowsOne, clauses_at}
use Rattle.sat_plain.specs.Answer.{clauses_of}
use Rattle.sat_plain.specs.Probed.{Closes, IsProbeTicked}
use Rattle.sat_plain.specs.Payments.{Spends}
use Rattle.sat_plain.specs.Ticks.{IsRefused}
use Rattle.sat_plain.specs.Trails.{lits_of}
use Rattle.sat_plain.specs.Turns.{IsFurther}
use Rattle.sat_plain.specs.declared.probe.Probed.{Probed}
use Rattle.sat_watch.specs.declared.step.Step.{Step}
use Rattle.sat_watch.specs.Steps.{IsStep, IsQuiet}
use Rattle.sat_cdcl.specs.Assumptions.{IsDecidedFor}
use Rattle.sat_cdcl.specs.Files.{Filed, AreForcedAll, list_of, places_of}
use Rattle.sat_cdcl.specs.Turns.{IsUnderWay}
use Rattle.sat_cdcl.specs.declared.backtrack.Reaction.{Reaction}
use Rattle.sat_cdcl.specs.declared.backtrack.Reaction.TheVariants as reaction
use Rattle.sat_cdcl.specs.declared.query.Query.{Query}
use Rattle.sat_cdcl.specs.declared.question.Question.{Question}
use Rattle.sat_cdcl.specs.declared.probe_turn.Turned.{Turned}
use Rattle.sat_cdcl.specs.declared.probe_turn.Turned.TheVariants.{GoesOn, Open, Closed, Spent, Stopped, Memory}

-- whether the clause of number n came in the question, as one that may rest on the extra clause
abbrev pub is_tainted : ℕ → List Bool → ℕ → Bool
is_tainted first taints n = if nat_lt n first then false else bit taints (n - first)

-- the clause is over the variables, and holds where the added ones do
abbrev pub IsKeepable : ℕ → List (List ℕ) → List ℕ → Type 0
IsKeepable vars added clause = IsBelow vars clause × FollowsOne added clause

-- the clauses hold just where the added ones and the extra one do; each that is not tainted, and each that is kept, follows from
-- the added ones alone
pub record IsLearning (vars : ℕ) (added : List (List ℕ)) (extra : Option (List ℕ)) (list : List (List ℕ))
    (question : Question) : Type 0 where
  pub width : length list ≡ question.first + length question.taints.items
  pub sound : Follows (clauses_of added extra) list
  pub whole : Follows list (clauses_of added extra)
  pub clean : (n : ℕ) (clause : List ℕ) → slice_get list n ≡ Some clause
      → is_tainted question.first question.taints.items n ≡ false → FollowsOne added clause
  pub keeps : All (IsKeepable vars added) question.kept.items

-- what was known in a question is known behind a step of it
abbrev pub LearnsOn : Filed → Question → Filed → Question → Type 0
LearnsOn before question after question' = (added : List (List ℕ)) (extra : Option (List ℕ))
    → IsLearning before.watched.trail.vars added extra (list_of before) question
    → IsLearning after.watched.trail.vars added extra (list_of after) question'

-- the search has come further
pub record IsAhead (under : List ℕ) (before after : Filed) (query : Query) (step : Step) : Type 0 where
  pub further : IsFurther before.watched.trail.vars (places_of before) (places_of after)
  pub step_is : IsStep after.watched step
  pub under_way : IsUnderWay under after query

-- the search has come further, or the literals of the core are refuted
abbrev pub IsAnswered : List ℕ → Filed → Filed → Query → Reaction → Type 0
IsAnswered under before after query (reaction.Backjump step) = IsAhead under before after query step
IsAnswered under before after query (reaction.Refutes core) = Closes after.watched.trail.vars (list_of after) under core

-- propagation ended quiet with all literals of `under` true, and each variable has a value, unless those to be decided are given
pub record IsSettled (under : List ℕ) (among : Option (List ℕ)) (filed : Filed) : Type 0 where
  pub quiet : IsQuiet filed.watched
  pub full : IsDecidedFor among filed.watched.trail.vars filed.watched.trail.values
  pub holds : All (Contains (lits_of (places_of filed))) under

-- the search has come further, or nothing is left to decide, or the literals of the core are refuted
abbrev pub IsTurned : List ℕ → Option (List ℕ) → Filed → Filed → Query → Turned → Type 0
IsTurned under among before after query (GoesOn step) = IsAhead under before after query step
IsTurned under among before after query Open = IsSettled under among after
IsTurned under among before after query (Closed core) = Closes after.watched.trail.vars (list_of after) under core
IsTurned under among before after query Spent = ⊤
IsTurned under among before after query Stopped = ⊤
IsTurned under among before after query Memory = ⊤

-- at most one unit was spent, and no tick was refused
abbrev pub SpendsOne : Meter → Meter → Type 0
SpendsOne before now = (n : ℕ) × (n ≤ 1) × Spends before now n

-- at most one unit was spent, or a tick was refused; nothing is said of the units where there was no memory
abbrev pub IsTurnTicked : Meter → Meter → Turned → Type 0
IsTurnTicked before now (GoesOn step) = SpendsOne before now
IsTurnTicked before now Open = SpendsOne before now
IsTurnTicked before now (Closed core) = SpendsOne before now
IsTurnTicked before now Spent = IsRefused before now
IsTurnTicked before now Stopped = SpendsOne before now
IsTurnTicked before now Memory = now.refused ≡ before.refused

-- a fact, where the flag was found raised
abbrev pub OnTurnStopped : Turned → Type 0 → Type 0
OnTurnStopped (GoesOn step) P = ⊤
OnTurnStopped Open P = ⊤
OnTurnStopped (Closed core) P = ⊤
OnTurnStopped Spent P = ⊤
OnTurnStopped Stopped P = P
OnTurnStopped Memory P = ⊤

-- with one unit spent before the search, it is ticked as a question is
abbrev pub IsFoundTicked : Meter → Meter → Probed → Type 0
IsFoundTicked before now found = (start : Meter) → (start.limit ≡ Some start.spent → ⊥)
    → Spends start before 1 → IsProbeTicked start now found

-- what a solver keeps between questions: literals that are forced, and clauses that follow from the added ones, which are those
-- of these numbers
pub record IsKeeper (vars : ℕ) (db : Filed) (added : List ℕ) : Type 0 where
  pub ordered : db.watched.trail.vars ≤ vars
  pub forced : AreForcedAll (places_of db)
  pub within : All (λ n. n < length (list_of db)) added
  pub sound : Follows (clauses_at (list_of db) added) (list_of db)
  pub short : length added < 2 ^ 32
