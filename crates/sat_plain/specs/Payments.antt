-- What units of a budget a search spends.
use Rattle.std.specs.Prelude.{◌≡◌, ℕ, ◌+◌, ◌≤◌, Some, ⊤}
use Rattle.ja_base.specs.declared.meter.Meter.{Meter}
use Rattle.sat_plain.specs.Ticks.{SpendsAtLeast, IsRefused}
use Rattle.sat_plain.specs.declared.budget.Payment.{Payment}
use Rattle.sat_plain.specs.declared.budget.Payment.TheVariants.{Paid, Spent, Stopped}

-- n units were spent, as far as the count reaches, and no tick was refused
pub record Spends (before now : Meter) (n : ℕ) : Type 0 where
  pub limit : now.limit ≡ before.limit
  pub refused : now.refused ≡ before.refused
  pub later : before.spent ≤ now.spent
  pub least : SpendsAtLeast before now n
  pub most : now.spent ≤ before.spent + n

-- one unit was spent, or refused since the limit is reached
abbrev pub IsPaid : Meter → Meter → Payment → Type 0
IsPaid before now Paid = Spends before now 1 × (before.limit ≡ Some before.spent → ⊥)
IsPaid before now Spent = IsRefused before now
IsPaid before now Stopped = Spends before now 1 × (before.limit ≡ Some before.spent → ⊥)

-- a fact, where the flag was found raised
abbrev pub OnPaymentStopped : Payment → Type 0 → Type 0
OnPaymentStopped Paid P = ⊤
OnPaymentStopped Spent P = ⊤
OnPaymentStopped Stopped P = P
