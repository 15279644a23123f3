-- What comes of a step that breaks the property, and of a round at the top.
use Rattle.std.specs.Prelude.{◌≡◌, ℕ, ◌<◌, Bool, true, false, List, []}
use Rattle.ja_base.specs.Valuation.{latch_row}
use Rattle.aig_model.specs.Netlist.{circuit}
use Rattle.aig_model.specs.Task.{VerificationTask}
use Rattle.ja_project.specs.Latches.{is_foreign}
use Rattle.ja_project.specs.Start.{starts}
use Rattle.ic3_general.specs.declared.aim.Aim.{Aim}
use Rattle.ic3_general.specs.Aims.{IsFailureOn, LeadsOn}
use Rattle.ic3_frames.specs.Sums.{potential}
use Rattle.ic3_general.specs.Cubes.{IsOutside}
use Rattle.ic3_oblig.specs.declared.obligation.Obligation.{Obligation}
use Rattle.ic3_query.specs.Known.{all_of}
use Rattle.ic3_query.specs.Questions.{IsGoodFrom}
use Rattle.ic3_engine.specs.declared.outcome.First.{First}
use Rattle.ic3_engine.specs.declared.outcome.First.TheVariants as first
use Rattle.ic3_engine.specs.declared.outcome.Round.{Round}
use Rattle.ic3_engine.specs.declared.outcome.Round.TheVariants as round
use Rattle.ic3_engine.specs.Clearing.{GoesOn}
use Rattle.ic3_engine.specs.Searching.{latch_vars}
use Rattle.ic3_engine.specs.Turns.{State}

-- a cube for the top, which has the latch row of the step and no initial row, and leads to a step that breaks the property
pub record IsTopCube (t : VerificationTask) (a : Aim) (top : ℕ) (vals : List Bool) (o : Obligation) : Type 0 where
  pub level_is : o.level ≡ top
  pub own : is_foreign (circuit t.design) o.clause ≡ false
  pub begins : starts (circuit t.design) o.clause ≡ true
  pub around : IsOutside (circuit t.design) o.clause (latch_row (circuit t.design) vals)
  pub leads : LeadsOn t a o.clause o.chain

-- a failure, or such a cube
abbrev pub IsFirst : VerificationTask → Aim → ℕ → List Bool → First → Type 0
IsFirst t a top vals (first.Failed failure) = IsFailureOn t a failure
IsFirst t a top vals (first.Waits o) = IsTopCube t a top vals o

-- the property is covered at the top; or a failure was found; or the sum rose, and nothing waits
abbrev pub IsRound : VerificationTask → Aim → State → State → Round → Type 0
IsRound t a old new round.Covered = GoesOn t a old new × (new.queue ≡ [])
    × IsGoodFrom t (all_of new.known) new.frames new.frames.top a.prop
IsRound t a old new (round.Failed failure) = GoesOn t a old new × IsFailureOn t a failure
IsRound t a old new round.Blocked = GoesOn t a old new × (new.queue ≡ [])
    × (potential (latch_vars t.design) old.frames.kept < potential (latch_vars t.design) new.frames.kept)
