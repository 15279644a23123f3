-- Where a cursor stands.
use Rattle.std.specs.Prelude.{◌≡◌, ℕ, ◌+◌, List, length}

-- how many bytes were taken, and those that are left
pub record Place : Type 0 where
  pub at : ℕ
  pub rest : List ℕ

-- the cursor went on by what was taken: the bytes end where they ended
abbrev pub Moves : Place → Place → Type 0
Moves old new = new.at + length new.rest ≡ old.at + length old.rest
