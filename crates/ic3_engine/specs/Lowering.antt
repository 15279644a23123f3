-- What comes of the step that leads into a waiting cube.
use Rattle.std.specs.Prelude.{◌≡◌, ◌+◌, Bool, true, false, List, [], ◌∷◌, ◌++◌}
use Rattle.ja_base.specs.Valuation.{latch_row}
use Rattle.aig_model.specs.Netlist.{circuit}
use Rattle.aig_model.specs.Task.{VerificationTask}
use Rattle.ja_project.specs.Latches.{is_foreign}
use Rattle.ja_project.specs.Start.{starts}
use Rattle.ic3_general.specs.declared.aim.Aim.{Aim}
use Rattle.ic3_general.specs.Aims.{IsFailureOn, LeadsOn}
use Rattle.ic3_general.specs.Cubes.{IsOutside}
use Rattle.ic3_oblig.specs.declared.obligation.Obligation.{Obligation}
use Rattle.ic3_engine.specs.declared.outcome.Turn.{Turn}
use Rattle.ic3_engine.specs.declared.outcome.Turn.TheVariants.{Done, Failed, Lower}

-- a cube one level lower, which has the latch row of the step and no initial row, and leads on
pub record IsEarlier (t : VerificationTask) (a : Aim) (now : Obligation) (vals : List Bool) (next : Obligation) : Type 0 where
  pub lower : next.level + 1 ≡ now.level
  pub own : is_foreign (circuit t.design) next.clause ≡ false
  pub begins : starts (circuit t.design) next.clause ≡ true
  pub around : IsOutside (circuit t.design) next.clause (latch_row (circuit t.design) vals)
  pub leads : LeadsOn t a next.clause next.chain

-- a failure, or such a cube while the other waits
abbrev pub IsLowering : VerificationTask → Aim → Obligation → List Obligation → List Obligation → List Bool → Turn → Type 0
IsLowering t a now before after vals Done = ⊥
IsLowering t a now before after vals (Failed failure) = (after ≡ before) × IsFailureOn t a failure
IsLowering t a now before after vals (Lower next) = (after ≡ before ++ now ∷ []) × IsEarlier t a now vals next
