-- The text of refutation lines, and the first place at which bytes are none.
use Rattle.std.specs.Prelude.{◌≡◌, ℕ, ◌<◌, ◌^◌, List, [], ◌∷◌, ◌++◌, length, flat_map, decimal}
use Rattle.std.specs.List.{AllByRecursion}
use Rattle.std.specs.List.Sorted.{IsStrictlyIncreasing}
use Rattle.refute_check.specs.declared.lines.Line.{Line}

-- a number behind a space
abbrev pub spaced : ℕ → List ℕ
spaced n = 32 ∷ decimal n

-- the literals, ` ;`, the hints, LF
abbrev pub line_text : Line → List ℕ
line_text line = flat_map spaced line.clause ++ 32 ∷ 59 ∷ flat_map spaced line.hints ++ 10 ∷ []

-- the texts of the lines, one behind the other
abbrev pub refutation_text : List Line → List ℕ
refutation_text lines = flat_map line_text lines

-- the numbers are below 2^32
abbrev pub AreSmall : List ℕ → Type 0
AreSmall numbers = AllByRecursion (λ n. n < 2 ^ 32) numbers

-- the literals ascend, and each number is below 2^32
pub record IsLine (line : Line) : Type 0 where
  pub ascends : IsStrictlyIncreasing line.clause
  pub lits : AreSmall line.clause
  pub hints : AreSmall line.hints

-- each of these is a line
abbrev pub AreLines : List Line → Type 0
AreLines lines = AllByRecursion IsLine lines

-- the bytes are the text of these lines
pub record Spells (bytes : List ℕ) (lines : List Line) : Type 0 where
  pub are_lines : AreLines lines
  pub text : bytes ≡ refutation_text lines

-- the text of a line stands at the front, and the rest behind it
pub record TakesLine (bytes : List ℕ) (line : Line) (rest : List ℕ) : Type 0 where
  pub is_line : IsLine line
  pub parts : bytes ≡ line_text line ++ rest

-- The bytes before this place are the text of lines. What begins there is not empty, and begins with the text of no line.
pub record IsFirstBadLine (bytes : List ℕ) (at : ℕ) : Type 0 where
  pub lines : List Line
  pub rest : List ℕ
  pub are_lines : AreLines lines
  pub parts : bytes ≡ refutation_text lines ++ rest
  pub place : at ≡ length (refutation_text lines)
  pub some : 0 < length rest
  pub none : (line : Line) (after : List ℕ) → TakesLine rest line after → ⊥
