-- When a solver serves the levels: under the switches of a level its rows are the steps from rows of that level.
use Rattle.std.specs.Prelude.{◌≡◌, ℕ, ◌+◌, ◌≤◌, Bool, false, Some, List, slice_get}
use Rattle.ja_base.specs.Literals.{value, AllSatisfiedBy}
use Rattle.ja_base.specs.Valuation.{latch_row}
use Rattle.ja_base.specs.Invariants.{MeetsClauses}
use Rattle.aig_model.specs.Netlist.{Netlist, circuit}
use Rattle.ja_project.specs.CodedClauses.{coded_clauses}
use Rattle.ja_project.specs.Latches.{is_foreign}
use Rattle.ic3_frames.specs.Levels.{Entry, Levels}
use Rattle.ic3_frames.specs.Soundness.{IsIn}
use Rattle.ic3_query.specs.Known.{HoldsAtStart}
use Rattle.ic3_query.specs.Switches.{IsOn, IsExactly}

-- the row is a step under the constraints, from a latch row that meets what is known
pub record IsKnownStep (n : Netlist) (known : List (List ℕ)) (row : List Bool) : Type 0 where
  pub coded : AllSatisfiedBy (value row) (coded_clauses n)
  pub known_met : MeetsClauses (circuit n) (latch_row (circuit n) row) known

-- a row that meets the solver's clauses is such a step, from a row of each level whose switches are on
pub record Holds (n : Netlist) (known : List (List ℕ)) (f : Levels)
    (clauses : List (List ℕ)) : Type 0 where
  pub step : (row : List Bool) → AllSatisfiedBy (value row) clauses → IsKnownStep n known row
  pub level : (row : List Bool) → AllSatisfiedBy (value row) clauses → (k : ℕ) → IsOn n f.top k row
      → IsIn (circuit n) f.kept k (latch_row (circuit n) row)

-- such a step from a row of a level, with just the switches of the level, meets the solver's clauses
abbrev pub Fits : Netlist → List (List ℕ) → Levels → List (List ℕ) → Type 0
Fits n known f clauses = (row : List Bool) → IsKnownStep n known row
    → (k : ℕ) → IsIn (circuit n) f.kept k (latch_row (circuit n) row) → IsExactly n f.top k row
    → AllSatisfiedBy (value row) clauses

-- the solver has a switch for each level from 0 to the top, and both directions hold
pub record Serves (n : Netlist) (known : List (List ℕ)) (f : Levels) (count : ℕ)
    (clauses : List (List ℕ)) : Type 0 where
  pub width : count ≡ n.vars + 1 + f.top + 1
  pub small : count ≤ 2147483648
  pub holds : Holds n known f clauses
  pub fits : Fits n known f clauses

-- the same without a word on what is known, for each level up to the top
abbrev pub FitsFrames : Netlist → Levels → List (List ℕ) → Type 0
FitsFrames n f clauses = (row : List Bool) → AllSatisfiedBy (value row) (coded_clauses n)
    → (k : ℕ) → k ≤ f.top → IsIn (circuit n) f.kept k (latch_row (circuit n) row)
    → IsExactly n f.top k row → AllSatisfiedBy (value row) clauses

-- the clause of this place may move up to the level
pub record IsMovable (n : Netlist) (f : Levels) (at level : ℕ) : Type 0 where
  pub entry : Entry
  pub is : slice_get f.kept at ≡ Some entry
  pub up : entry.level ≤ level
  pub own : is_foreign (circuit n) entry.clause ≡ false
  pub begins : HoldsAtStart (circuit n) entry.clause
