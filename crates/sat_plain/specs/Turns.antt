-- What a search keeps from turn to turn.
use Rattle.std.specs.Prelude.{◌≡◌, ℕ, ◌+◌, ◌<◌, ◌≤◌, ◌++◌, Bool, true, List, length, take, Option, Some, None, Result, Ok, Err, All, Contains, ⊤}
use Rattle.ja_base.specs.Literals.{value, AllSatisfiedBy}
use Rattle.ja_base.specs.Clauses.{IsBelow}
use Rattle.ja_base.specs.declared.memory.Memory.{Memory}
use Rattle.refute_check.specs.Checked.{Numbering}
use Rattle.refute_check.specs.Laws.{AreAccepted, with_lines}
use Rattle.refute_check.specs.Refuted.{is_covered}
use Rattle.refute_check.specs.declared.lines.Line.{Line}
use Rattle.sat_plain.specs.declared.place.Place.{Place}
use Rattle.sat_plain.specs.declared.query.Query.{Query}
use Rattle.sat_plain.specs.Trails.{AreForced, lits_of, kinds_of}
use Rattle.sat_plain.specs.Rank.{rank}

-- each line is accepted over the clauses and the lines before it, and `all` has the clauses and then those of the lines
pub record IsLog (vars : ℕ) (clauses : List (List ℕ)) (lines : List Line)
    (all : List (List ℕ)) : Type 0 where
  pub accepted : AreAccepted vars clauses lines
  pub is : all ≡ with_lines clauses lines

-- clauses came last, and none of them was added
pub record IsExtended (before after : Numbering) : Type 0 where
  pub more : List (List ℕ)
  pub list : after.list ≡ before.list ++ more
  pub added : after.added ≡ before.added
  pub kept : after.kept ≡ before.kept

-- the clauses are over the variables, each place is forced or decided, and the lowest ones, `assumed` many, are there
pub record IsSearch (vars assumed : ℕ) (places : List Place)
    (clauses : List (List ℕ)) : Type 0 where
  pub below : All (IsBelow vars) clauses
  pub forced : AreForced clauses places
  pub base : assumed ≤ length places

-- what stays over a turn: the lowest places, and that the log is accepted; at most one line came
pub record IsNext (vars assumed : ℕ) (places : List Place) (lines : List Line) (clauses : Numbering)
    (places' : List Place) (lines' : List Line) (clauses' : Numbering) : Type 0 where
  pub search : IsSearch vars assumed places' clauses'.list
  pub base : take assumed places' ≡ take assumed places
  pub log : (given : List (List ℕ)) → IsLog vars given lines clauses.list
      → IsLog vars given lines' clauses'.list
  pub store : IsExtended clauses clauses'
  pub few : length lines' ≤ length lines + 1

-- the search is under way with this query over the clauses
abbrev pub IsUnderWay : Query → Numbering → Type 0
IsUnderWay query clauses = IsSearch query.trail.vars query.assumed query.trail.places clauses.list

-- what stays over a turn, of query and clauses
abbrev pub Continues : Query → Numbering → Query → Numbering → Type 0
Continues before clauses after clauses' =
    IsNext before.trail.vars before.assumed before.trail.places before.lines clauses
    after.trail.places after.lines clauses'

-- literals out of these that contradict the clauses at once
pub record IsCore (lits : List ℕ) (clauses : List (List ℕ)) (core : List ℕ) : Type 0 where
  pub part : All (Contains lits) core
  pub covered : is_covered clauses core ≡ true

-- the row meets the clauses and these literals
pub record IsModel (vars : ℕ) (clauses : List (List ℕ)) (lits : List ℕ)
    (row : List Bool) : Type 0 where
  pub width : length row ≡ vars
  pub clauses_hold : AllSatisfiedBy (value row) clauses
  pub lits_hold : (l : ℕ) → Contains lits l → value row l ≡ true

-- the search has come further
abbrev pub IsFurther : ℕ → List Place → List Place → Type 0
IsFurther vars before after = rank vars (kinds_of before) < rank vars (kinds_of after)

-- after a conflict one line came, and the search has come further, or the lowest places are refuted
abbrev pub IsLearnt : ℕ → ℕ → List Place → List Line → List Place → List Line → List (List ℕ)
    → Result (Option (List ℕ)) Memory → Type 0
IsLearnt vars assumed places lines places' lines' clauses' (Ok None) =
    (length lines' ≡ length lines + 1) × IsFurther vars places places'
IsLearnt vars assumed places lines places' lines' clauses' (Ok (Some core)) =
    (length lines' ≡ length lines + 1) × IsCore (take assumed (lits_of places')) clauses' core
IsLearnt vars assumed places lines places' lines' clauses' (Err e) = ⊤
