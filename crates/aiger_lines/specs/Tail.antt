-- What may follow the gates: symbol lines, empty lines and comments.
use Rattle.std.specs.Prelude.{◌≡◌, ℕ, ◌<◌, ◌==◌, ◌⊎◌, if◌then◌else◌, List, [], ◌∷◌, ◌++◌}
use Rattle.std.specs.List.{flat_map, AllByRecursion}
use Rattle.std.specs.Option.{option_map_or}
use Rattle.ja_text.specs.Numbers.{IsNumber, BeginsWithoutDigit}
use Rattle.ja_text.specs.Lines.{IsOneLine, line_at}
use Rattle.aiger_lines.specs.declared.sizes.Header.{Header}

-- how many items the letter of a symbol can name: i, l, o, b, c, j, f, and no other letter names any
abbrev pub symbol_count : Header → ℕ → ℕ
symbol_count h letter =
    if letter == 105 then h.inputs else
    if letter == 108 then h.latches else
    if letter == 111 then h.outputs else
    if letter == 98 then h.bads else
    if letter == 99 then h.constraints else
    if letter == 106 then h.justice else
    if letter == 102 then h.fairness else 0

-- a letter, a position below the count of its kind, a space, and a name of any bytes but LF
pub record IsSymbol (h : Header) (line : List ℕ) : Type 0 where
  pub letter : ℕ
  pub digits : List ℕ
  pub position : ℕ
  pub name : List ℕ
  pub line_is : line ≡ letter ∷ digits ++ 32 ∷ name
  pub number : IsNumber digits position
  pub below : position < symbol_count h letter
  pub one_line : IsOneLine name

-- a line that is passed over: an empty one, or a symbol
abbrev pub IsPassedOver : Header → List ℕ → Type 0
IsPassedOver h line = (line ≡ []) ⊎ IsSymbol h line

-- a `c` that no digit follows begins the comments, which are any bytes
abbrev pub IsComments : List ℕ → Type 0
IsComments [] = ⊥
IsComments (b ∷ bytes) = (b ≡ 99) × BeginsWithoutDigit bytes

-- the text is lines that are passed over, each ended by LF, and the rest
pub record PassesOver (h : Header) (text rest : List ℕ) : Type 0 where
  pub lines : List (List ℕ)
  pub text_is : text ≡ flat_map (λ line. line ++ 10 ∷ []) lines ++ rest
  pub passed : AllByRecursion (IsPassedOver h) lines

-- Lines that are passed over, and then: nothing, a last line that lacks its LF, or comments.
pub record IsTail (h : Header) (text : List ℕ) : Type 0 where
  pub rest : List ℕ
  pub lines : PassesOver h text rest
  pub ends : IsPassedOver h rest ⊎ IsComments rest

-- the bytes up to the next LF, or all of them where none follows
abbrev pub first_line : List ℕ → List ℕ
first_line bytes = option_map_or (λ l. l.0) (line_at bytes) bytes

-- behind lines that are passed over the rest begins with a line that is not in form: none of those, and no comments
pub record HasBadLine (h : Header) (text rest : List ℕ) : Type 0 where
  pub lines : PassesOver h text rest
  pub not_passed : IsPassedOver h (first_line rest) → ⊥
  pub no_comments : IsComments rest → ⊥
