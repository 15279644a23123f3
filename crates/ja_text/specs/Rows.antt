-- Rows of numbers: one space between two, and LF at the end.
use Rattle.std.specs.Prelude.{◌≡◌, ℕ, zero, suc, ◌≤◌, ◌==◌, if◌then◌else◌, List, [], ◌∷◌, ◌++◌, length, Option, Some, None, option_map, option_and_then}
use Rattle.ja_text.specs.Forms.{BeginsWith}
use Rattle.ja_text.specs.Numbers.{IsNumber, number_at}

-- the text of a row of numbers
abbrev pub IsRow : List ℕ → List ℕ → Type 0
IsRow text [] = ⊥
IsRow text (n ∷ []) = (number : List ℕ) × IsNumber number n × (text ≡ number ++ 10 ∷ [])
IsRow text (n ∷ m ∷ ns) = (number : List ℕ) × (others : List ℕ) × IsNumber number n
    × (text ≡ number ++ 32 ∷ others)
    × IsRow others (m ∷ ns)

-- these numbers were read: the bytes are their row, and the rest
pub record TakesRow (most : ℕ) (bytes numbers rest : List ℕ) : Type 0 where
  pub row : BeginsWith (λ text. IsRow text numbers) bytes rest
  pub few : length numbers ≤ most

-- what a row has behind its number n, where its other numbers are read so
abbrev pub row_behind : (List ℕ → Option (List ℕ × List ℕ)) → ℕ → List ℕ → Option (List ℕ × List ℕ)
row_behind others n [] = None
row_behind others n (b ∷ bs) = if b == 10 then Some (n ∷ [], bs) else if b == 32
    then option_map (λ r. (n ∷ r.0, r.1))
    (others bs) else None

-- the numbers of the row at the front, at most so many, and what follows its LF
unfoldable pub row_at : ℕ → List ℕ → Option (List ℕ × List ℕ)
row_at zero bytes = None
row_at (suc most) bytes = option_and_then (λ n. row_behind (row_at most) n.0 n.1) (number_at bytes)
