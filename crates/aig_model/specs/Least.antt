-- The least number with a property, where there may be none.
use Rattle.std.specs.Prelude.{ℕ, Option, Some, None}
use Rattle.ja_base.specs.Replay.{IsLeast}

-- the least number with this property, or none has it
abbrev pub IsLeastOf : (ℕ → Type 0) → Option ℕ → Type 0
IsLeastOf P None = (v : ℕ) → P v → ⊥
IsLeastOf P (Some v) = IsLeast P v
