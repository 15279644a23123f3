-- What is known of the steps that a replay has taken.
use Rattle.std.specs.Prelude.{◌≡◌, ℕ, ◌+◌, ◌-◌, Bool, true, Option, Some, None, List, [], ◌∷◌, ◌++◌, length, take, All}
use Rattle.ja_base.specs.Literals.{bit}
use Rattle.ja_base.specs.Circuit.{Circuit, Problem}
use Rattle.ja_base.specs.Valuation.{IsBad, MeetsConstraints, AssumptionsHold}
use Rattle.ja_base.specs.Runs.{Trace}
use Rattle.ja_base.specs.Replay.{IsLeast, BreaksAt, LeavesConstraints}
use Rattle.aig_eval.specs.Run.{Standing, RunsTo}
use Rattle.local_stim.specs.declared.earlier.Broken.{Broken}
use Rattle.local_stim.specs.declared.earlier.Earlier.{Earlier}
use Rattle.local_stim.specs.declared.earlier.Earlier.TheVariants.{Leaves, Stays}

-- the property is assumed, and these values break it
abbrev pub BreaksAssumption : Problem → List Bool → ℕ → Type 0
BreaksAssumption t values p = (bit t.assumed p ≡ true) × IsBad t.circuit p values

-- the first of these steps that breaks an assumed property, with the least such property; None where no step does
abbrev pub IsFirstBreak : Problem → List (List Bool) → Option Broken → Type 0
IsFirstBreak t steps None = All (AssumptionsHold t.circuit t.assumed) steps
IsFirstBreak t steps (Some b) = IsLeast (λ j. (r : ℕ) × BreaksAt t steps j r) b.step
    × IsLeast (BreaksAt t steps b.step) b.prop

-- the run of these rows from the first latch row meets the constraints and ends in this latch row, with this first break
pub record Replays (t : Problem) (first : List Bool) (rows : List (List Bool)) (state : List Bool)
    (broken : Option Broken) : Type 0 where
  pub steps : List (List Bool)
  pub runs : RunsTo t.circuit first rows steps state
  pub constrained : All (MeetsConstraints t.circuit) steps
  pub first_break : IsFirstBreak t steps broken

-- a step goes on in the run of a stimulus by the row at its place
abbrev pub GoesOn : Circuit → Trace → ℕ → Standing → Standing → Type 0
GoesOn c m step old new = (steps : List (List Bool))
    → RunsTo c m.first (take step m.inputs) steps old.state
    → RunsTo c m.first (take (step + 1) m.inputs) (steps ++ new.values ∷ []) new.state

-- all rows of a stimulus but the last
abbrev pub earlier_rows : Trace → List (List Bool)
earlier_rows m = take (length m.inputs - 1) m.inputs

-- what the steps before the last say, after which this latch row comes next
abbrev pub IsEarlier : Problem → Trace → List Bool → Earlier → Type 0
IsEarlier t m state (Leaves step) = LeavesConstraints t m step
IsEarlier t m state (Stays broken) = Replays t m.first (earlier_rows m) state broken
