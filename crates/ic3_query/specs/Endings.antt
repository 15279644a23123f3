-- How a call ends that takes a meter and a flag.
use Rattle.std.specs.Prelude.{◌≡◌, Result, Ok, Err, ⊤}
use Rattle.ja_base.specs.declared.meter.Meter.{Meter}
use Rattle.sat_plain.specs.Ticks.{IsRefused}
use Rattle.ic3_query.specs.declared.halt.Halt.{Halt}
use Rattle.ic3_query.specs.declared.halt.Halt.TheVariants.{Spent, Stopped, Memory}

-- a tick was refused exactly where the call ends with `Spent`
abbrev pub IsCharged : {T : Type 0} → Meter → Meter → Result T Halt → Type 0
IsCharged before now (Ok x) = now.refused ≡ before.refused
IsCharged before now (Err Spent) = IsRefused before now
IsCharged before now (Err Stopped) = now.refused ≡ before.refused
IsCharged before now (Err Memory) = now.refused ≡ before.refused

-- a fact, where the call ends with `Stopped`
abbrev pub OnStopped : {T : Type 0} → Result T Halt → Type 0 → Type 0
OnStopped (Ok x) P = ⊤
OnStopped (Err Spent) P = ⊤
OnStopped (Err Stopped) P = P
OnStopped (Err Memory) P = ⊤
