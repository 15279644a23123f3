-- Deltas: numbers in one to five bytes. Each byte has a group of seven bits, the least significant group first, and its top bit
-- says whether another byte follows. The number 130 is the bytes 130 1.
use Rattle.std.specs.Prelude.{◌≡◌, ℕ, ◌+◌, ◌*◌, ◌%◌, ◌<◌, ◌≤◌, List, [], ◌∷◌, length}
use Rattle.aiger_binary.specs.declared.delta.TheConstants.{MOST_DELTA_BYTES}

-- each byte but the last has its top bit set
abbrev pub HasOneEnd : List ℕ → Type 0
HasOneEnd [] = ⊥
HasOneEnd (b ∷ []) = b < 128
HasOneEnd (b ∷ c ∷ bs) = (128 ≤ b) × HasOneEnd (c ∷ bs)

-- what the groups of the bytes stand for
abbrev pub groups_value : List ℕ → ℕ
groups_value [] = 0
groups_value (b ∷ bs) = b % 128 + 128 * groups_value bs

-- The text of a delta. It may be longer than needed, by groups that are 0.
pub record IsDelta (text : List ℕ) (n : ℕ) : Type 0 where
  pub ends : HasOneEnd text
  pub few : length text ≤ MOST_DELTA_BYTES
  pub value : n ≡ groups_value text
