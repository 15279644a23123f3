-- What a look at what is known alone finds.
use Rattle.std.specs.Prelude.{ℕ, Bool, List, ⊤}
use Rattle.ja_base.specs.Circuit.{Circuit}
use Rattle.ja_base.specs.Invariants.{Covers}
use Rattle.ja_base.specs.Valuation.{IsBad, IsValuation, MeetsConstraints, input_row, latch_row}
use Rattle.ic3_engine.specs.declared.outcome.Look.{Look}
use Rattle.ic3_engine.specs.declared.outcome.Look.TheVariants.{Covered, Blocked, Open}

-- the values of a step under the constraints that breaks the property
pub record IsBreak (c : Circuit) (p : ℕ) (values : List Bool) : Type 0 where
  pub step : IsValuation c (latch_row c values) (input_row c values) values
  pub constrained : MeetsConstraints c values
  pub bad : IsBad c p values

-- where a look says so, what is known covers the property
abbrev pub IsLook : Circuit → List (List ℕ) → ℕ → Look → Type 0
IsLook c known p Covered = Covers c known p
IsLook c known p Blocked = ⊤
IsLook c known p Open = ⊤
