-- What a query leaves of the meter.
use Rattle.std.specs.Prelude.{◌≡◌, ℕ, ◌+◌, ◌≤◌, length, Some, min}
use Rattle.ja_base.specs.Meter.{next_count}
use Rattle.ja_base.specs.declared.meter.Meter.{Meter}
use Rattle.sat_plain.specs.declared.answer.SatAnswer.{SatAnswer}
use Rattle.sat_plain.specs.declared.answer.SatAnswer.TheVariants.{Sat, Unsat, Spent, Stopped, Memory}

-- both counts together rose by at most n
abbrev pub TicksAtMost : Meter → Meter → ℕ → Type 0
TicksAtMost before now n = now.spent + now.refused ≤ before.spent + before.refused + n

-- at least n units were spent, as far as the count reaches
abbrev pub SpendsAtLeast : Meter → Meter → ℕ → Type 0
SpendsAtLeast before now n = min (before.spent + n) 18446744073709551615 ≤ now.spent

-- the limit stays, and no count falls
pub record IsLater (before now : Meter) : Type 0 where
  pub limit : now.limit ≡ before.limit
  pub spent : before.spent ≤ now.spent
  pub refused : before.refused ≤ now.refused

-- the last tick was refused, since the limit is reached
pub record IsRefused (before now : Meter) : Type 0 where
  pub counted : now.refused ≡ next_count before.refused
  pub reached : now.limit ≡ Some now.spent

-- no tick was refused: at the start the limit was not reached
pub record IsGranted (before now : Meter) : Type 0 where
  pub counted : now.refused ≡ before.refused
  pub unreached : before.limit ≡ Some before.spent → ⊥

-- `Spent` is answered exactly where a tick was refused. Else a unit was spent when the query began, and there are no more
-- lines than units; want of memory may come before.
abbrev pub IsTicked : Meter → Meter → SatAnswer → Type 0
IsTicked before now (Sat row) = IsGranted before now × SpendsAtLeast before now 1
IsTicked before now (Unsat refuted) = IsGranted before now × SpendsAtLeast before now 1
    × SpendsAtLeast before now (length refuted.lines)
IsTicked before now Spent = IsRefused before now
IsTicked before now Stopped = IsGranted before now × SpendsAtLeast before now 1
IsTicked before now Memory = now.refused ≡ before.refused
