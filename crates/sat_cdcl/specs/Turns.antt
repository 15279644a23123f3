-- What a search keeps from turn to turn, and what a turn leaves.
use Rattle.std.specs.Prelude.{◌≡◌, ℕ, ◌+◌, ◌≤◌, Option, Some, List, length, slice_get, All, Contains, ⊤}
use Rattle.ja_base.specs.Literals.{negated}
use Rattle.sat_plain.specs.declared.place.Place.{Place}
use Rattle.sat_plain.specs.Trails.{lits_of}
use Rattle.ja_base.specs.declared.meter.Meter.{Meter}
use Rattle.refute_check.specs.declared.lines.Line.{Line}
use Rattle.sat_plain.specs.Ticks.{IsRefused}
use Rattle.sat_plain.specs.Payments.{Spends}
use Rattle.sat_plain.specs.Turns.{IsLog, IsCore, IsModel, IsFurther}
use Rattle.sat_plain.specs.Outcomes.{SpendsFor}
use Rattle.sat_watch.specs.declared.step.Step.{Step}
use Rattle.sat_watch.specs.Steps.{IsStep}
use Rattle.sat_cdcl.specs.Files.{Filed, list_of, places_of}
use Rattle.sat_cdcl.specs.Assumptions.{IsAssuming, DecidesUnder, IsDecidedFor}
use Rattle.sat_cdcl.specs.declared.query.Query.{Query}
use Rattle.sat_cdcl.specs.declared.backtrack.Reaction.{Reaction}
use Rattle.sat_cdcl.specs.declared.backtrack.Reaction.TheVariants as reaction
use Rattle.sat_cdcl.specs.declared.advance.Move.{Move}
use Rattle.sat_cdcl.specs.declared.advance.Move.TheVariants as moved
use Rattle.sat_cdcl.specs.declared.turn.Outcome.{Outcome}
use Rattle.sat_cdcl.specs.declared.turn.Outcome.TheVariants.{GoesOn, Meets, Refutes, Spent, Stopped, Memory}

-- the search is under way with this query
abbrev pub IsUnderWay : List ℕ → Filed → Query → Type 0
IsUnderWay under filed query = IsAssuming under (places_of filed) query.free query.cursor

-- at most one line came, and the log is as before in all else
pub record IsLogged (before : Filed) (lines : List Line) (after : Filed) (lines' : List Line) : Type 0 where
  pub log : (given : List (List ℕ)) → IsLog before.watched.trail.vars given lines (list_of before)
      → IsLog before.watched.trail.vars given lines' (list_of after)
  pub few : length lines' ≤ length lines + 1

-- the search has come further
pub record IsOnward (under : List ℕ) (before : Filed) (query : Query) (after : Filed) (query' : Query) (step : Step) : Type 0 where
  pub further : IsFurther before.watched.trail.vars (places_of before) (places_of after)
  pub step_is : IsStep after.watched step
  pub under_way : IsUnderWay under after query'
  pub logged : IsLogged before query.lines after query'.lines

-- the literals that are assumed are refuted
pub record IsRefuting (under : List ℕ) (before : Filed) (query : Query) (after : Filed) (query' : Query) (core : List ℕ) : Type 0 where
  pub core_is : IsCore under (list_of after) core
  pub logged : IsLogged before query.lines after query'.lines

-- the search has come further, or the literals that are assumed are refuted
abbrev pub IsReacted : List ℕ → Filed → Query → Filed → Query → Reaction → Type 0
IsReacted under before query after query' (reaction.Backjump step) = IsOnward under before query after query' step
IsReacted under before query after query' (reaction.Refutes core) = IsRefuting under before query after query' core

-- the negation of the literal of place p is assumed, and only such literals were decided
pub record IsFalsified (under : List ℕ) (places : List Place) (p : ℕ) : Type 0 where
  pub place : Place
  pub is : slice_get places p ≡ Some place
  pub assumed : Contains under (negated place.lit)
  pub decisions : DecidesUnder under places (length places)

-- the search has come further, or all variables to be decided have a value and all assumed literals are true, or one is false
abbrev pub IsAdvanced : List ℕ → Option (List ℕ) → Filed → Query → Filed → Query → Move → Type 0
IsAdvanced under among before query after query' (moved.Decided step) = IsOnward under before query after query' step
IsAdvanced under among before query after query' moved.Full =
    (after ≡ before) × IsDecidedFor among before.watched.trail.vars before.watched.trail.values
    × All (Contains (lits_of (places_of before))) under
IsAdvanced under among before query after query' (moved.Falsified p) =
    (after ≡ before) × IsFalsified under (places_of before) p

-- the search has come further, or a row meets all, or the literals that are assumed are refuted
abbrev pub IsTurned : List ℕ → Filed → Query → Filed → Query → Outcome → Type 0
IsTurned under before query after query' (GoesOn step) = IsOnward under before query after query' step
IsTurned under before query after query' (Meets row) = IsModel before.watched.trail.vars (list_of after) under row
IsTurned under before query after query' (Refutes core) = IsRefuting under before query after query' core
IsTurned under before query after query' Spent = ⊤
IsTurned under before query after query' Stopped = ⊤
IsTurned under before query after query' Memory = ⊤

-- a unit for each line, or the tick that was refused; want of memory may come behind a unit for which there is no line
abbrev pub IsTurnTicked : Meter → Meter → ℕ → ℕ → Outcome → Type 0
IsTurnTicked before now n m (GoesOn step) = SpendsFor before now n m
IsTurnTicked before now n m (Meets row) = SpendsFor before now n m
IsTurnTicked before now n m (Refutes core) = SpendsFor before now n m
IsTurnTicked before now n m Spent = IsRefused before now
IsTurnTicked before now n m Stopped = Spends before now 1
IsTurnTicked before now n m Memory = now.refused ≡ before.refused

-- a fact, where the flag was found raised
abbrev pub OnTurnStopped : Outcome → Type 0 → Type 0
OnTurnStopped (GoesOn step) P = ⊤
OnTurnStopped (Meets row) P = ⊤
OnTurnStopped (Refutes core) P = ⊤
OnTurnStopped Spent P = ⊤
OnTurnStopped Stopped P = P
OnTurnStopped Memory P = ⊤
