-- Signatures: 64 bits of a clause that tell at once that it is no part of another.
use Rattle.std.specs.Prelude.{◌≡◌, ℕ, ◌%◌, List, Contains}
use Rattle.std.specs.Int.{bit_at}

-- the bit of a literal in a signature
abbrev pub place_of : ℕ → ℕ
place_of l = l % 64

-- a literal whose bit is this one
pub record HasPlace (lits : List ℕ) (i : ℕ) : Type 0 where
  pub lit : ℕ
  pub among : Contains lits lit
  pub place : place_of lit ≡ i

-- exactly the bits of these literals are set
pub record IsMark (lits : List ℕ) (mark : ℕ) : Type 0 where
  pub set : (l : ℕ) → Contains lits l → bit_at mark (place_of l) ≡ 1
  pub only : (i : ℕ) → bit_at mark i ≡ 1 → HasPlace lits i
