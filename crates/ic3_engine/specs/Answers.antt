-- What a turn of a descent answers.
use Rattle.std.specs.Prelude.{ℕ}
use Rattle.aig_model.specs.Task.{VerificationTask}
use Rattle.ic3_general.specs.declared.aim.Aim.{Aim}
use Rattle.ic3_engine.specs.declared.outcome.Turn.{Turn}
use Rattle.ic3_engine.specs.declared.outcome.Turn.TheVariants.{Done, Failed, Lower}
use Rattle.ic3_engine.specs.Turns.{Blocks, Fails, Lowers, State}

-- a turn that was asked for a cube of this level
abbrev pub IsTurn : VerificationTask → Aim → ℕ → State → State → Turn → Type 0
IsTurn t a level old new Done = Blocks t a 1 old new
IsTurn t a level old new (Failed failure) = Fails t a 0 old new failure
IsTurn t a level old new (Lower next) = Lowers t a level old new next
