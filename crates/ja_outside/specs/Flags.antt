-- What polls leave of a flag, and a flag in memory.
use Rattle.std.specs.Prelude.{◌≡◌, ℕ, ◌≤◌, Bool, false, nat_le, IsTrue, if◌then◌else◌, Option, Some, None}
use Rattle.ja_base.specs.Meter.{next_count}
use Rattle.ja_outside.specs.Faults.{Rose}

-- a flag after some polls or none: whether it may be raised at all has stayed, and no answer true was taken back
pub record IsPolled {T : Type 0} (may_rise : T → Bool) (raised : T → ℕ)
    (before now : T) : Type 0 where
  pub kept : may_rise now ≡ may_rise before
  pub later : raised before ≤ raised now

-- a poll was answered true, by a flag that may be raised
pub record IsFoundRaised {T : Type 0} (may_rise : T → Bool) (raised : T → ℕ)
    (before now : T) : Type 0 where
  pub may : IsTrue (may_rise before)
  pub counted : Rose (raised before) (raised now)

-- the number of the first poll that finds it raised, the polls so far, and those that found it raised
pub record FlagInMemory : Type 0 where
  pub after : Option ℕ
  pub polls : ℕ
  pub raised : ℕ

-- the poll of this number finds it raised
abbrev pub is_raised_at : Option ℕ → ℕ → Bool
is_raised_at None poll = false
is_raised_at (Some after) poll = nat_le after poll

-- the next poll finds it raised
abbrev pub is_raised : FlagInMemory → Bool
is_raised flag = is_raised_at flag.after flag.polls

-- the flag after the next poll
abbrev pub polled : FlagInMemory → FlagInMemory
polled flag = record flag {
  polls = next_count flag.polls;
  raised = if is_raised flag then next_count flag.raised else flag.raised;
}
