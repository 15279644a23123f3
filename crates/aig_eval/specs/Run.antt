-- What contracts see of a `Runner`, and where it stands in a run.
use Rattle.std.specs.Prelude.{◌≡◌, Bool, List, [], ◌∷◌, length}
use Rattle.ja_base.specs.Circuit.{Circuit}
use Rattle.ja_base.specs.Valuation.{next_state}
use Rattle.ja_base.specs.Runs.{IsRun}
use Rattle.aig_eval.specs.Rows.{IsClear}

-- the latch row that the next step starts from, and the values of the last step
pub record Standing : Type 0 where
  pub state : List Bool
  pub values : List Bool

-- its rows have the widths of the circuit
pub record Fits (c : Circuit) (r : Standing) : Type 0 where
  pub state : length r.state ≡ length c.latches
  pub values : IsClear c r.values

-- the latch row after these steps
abbrev pub state_after : Circuit → List Bool → List (List Bool) → List Bool
state_after c state [] = state
state_after c state (v ∷ vs) = state_after c (next_state c v) vs

-- these steps are the run of these input rows from the first latch row, and this latch row comes next
pub record RunsTo (c : Circuit) (first : List Bool) (inputs steps : List (List Bool))
    (state : List Bool) : Type 0 where
  pub run : IsRun c first inputs steps
  pub next : state_after c first steps ≡ state
