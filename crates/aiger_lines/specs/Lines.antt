-- Sections of an AIGER file: lines of numbers, one for each item.
use Rattle.std.specs.Prelude.{◌≡◌, ℕ, ◌+◌, ◌*◌, ◌≤◌, ◌⊎◌, List, [], ◌∷◌, ◌++◌}
use Rattle.std.specs.List.{AllByRecursion}
use Rattle.ja_text.specs.Rows.{IsRow}
use Rattle.aig_model.specs.declared.netlist.Reset.{Reset}
use Rattle.aig_model.specs.declared.netlist.Reset.TheVariants.{Zero, One, Free}

-- the text is a line of this form for each item, in order
abbrev pub AreLines : {X : Type 0} → (List ℕ → X → Type 0) → List ℕ → List X → Type 0
AreLines IsLine text [] = text ≡ []
AreLines IsLine text (x ∷ xs) = (line : List ℕ) × (others : List ℕ) × IsLine line x
    × (text ≡ line ++ others)
    × AreLines IsLine others xs

-- a line of one literal
abbrev pub IsLiteralLine : List ℕ → ℕ → Type 0
IsLiteralLine line l = IsRow line (l ∷ [])

-- how a reset is written: a latch that is free at the start has its own literal
abbrev pub reset_number : ℕ → Reset → ℕ
reset_number l Zero = 0
reset_number l One = 1
reset_number l Free = l

-- The line has these numbers and then the reset, which may be left out where it is 0.
abbrev pub HasReset : List ℕ → List ℕ → ℕ → Reset → Type 0
HasReset line numbers l reset = IsRow line (numbers ++ reset_number l reset ∷ [])
    ⊎ (IsRow line numbers × (reset ≡ Zero))

-- a literal that may be used: its variable is at most the greatest one
abbrev pub IsUsed : ℕ → ℕ → Type 0
IsUsed vars l = l ≤ 2 * vars + 1

-- the line of an item was read: the bytes are its text, and the rest
pub record TakesItem {X : Type 0} (IsLine : List ℕ → X → Type 0) (InRange : X → Type 0)
    (bytes : List ℕ) (x : X)
    (rest : List ℕ) : Type 0 where
  pub line : List ℕ
  pub parts : bytes ≡ line ++ rest
  pub form : IsLine line x
  pub range : InRange x

-- a line for each of these items was read
pub record TakesItems {X : Type 0} (IsLine : List ℕ → X → Type 0) (InRange : X → Type 0)
    (bytes : List ℕ) (xs : List X)
    (rest : List ℕ) : Type 0 where
  pub text : List ℕ
  pub parts : bytes ≡ text ++ rest
  pub lines : AreLines IsLine text xs
  pub range : AllByRecursion InRange xs
