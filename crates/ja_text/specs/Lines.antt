-- A single byte, a word and a line, read from the front of bytes.
use Rattle.std.specs.Prelude.{◌≡◌, ◌≢◌, ℕ, ◌==◌, if◌then◌else◌, nat_eq, List, [], ◌∷◌, ◌++◌, length, drop, Option, Some, None, option_map}
use Rattle.std.specs.List.{AllByRecursion, starts_with}

-- what follows the byte
abbrev pub byte_at : ℕ → List ℕ → Option (List ℕ)
byte_at b [] = None
byte_at b (c ∷ cs) = if c == b then Some cs else None

-- what follows one space
unfoldable pub space_at : List ℕ → Option (List ℕ)
space_at bytes = byte_at 32 bytes

-- what follows the LF
unfoldable pub newline_at : List ℕ → Option (List ℕ)
newline_at bytes = byte_at 10 bytes

-- what follows the word
unfoldable pub word_at : List ℕ → List ℕ → Option (List ℕ)
word_at word bytes = if starts_with nat_eq bytes word then Some (drop (length word) bytes) else None

-- no LF stands in the text
abbrev pub IsOneLine : List ℕ → Type 0
IsOneLine text = AllByRecursion (λ b. b ≢ 10) text

-- the line was read: the bytes are its text, the LF, and the rest
pub record TakesLine (bytes text rest : List ℕ) : Type 0 where
  pub one_line : IsOneLine text
  pub parts : bytes ≡ text ++ 10 ∷ rest

-- the bytes up to the next LF, and what follows it
unfoldable pub line_at : List ℕ → Option (List ℕ × List ℕ)
line_at [] = None
line_at (b ∷ bs) = if b == 10 then Some ([], bs) else option_map (λ l. (b ∷ l.0, l.1)) (line_at bs)
