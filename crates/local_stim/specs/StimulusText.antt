-- The text of a stimulus, as AIGER 1.9 tools print a counterexample of a bad-state property.
use Rattle.std.specs.Prelude.{◌≡◌, ℕ, ◌<◌, ◌≤◌, ◌^◌, ◌⊎◌, Bool, true, false, ⊤, if◌then◌else◌, List, [], ◌∷◌, ◌++◌, length, map, flat_map, decimal, All}
use Rattle.ja_text.specs.Numbers.{IsNumber}
use Rattle.ja_base.specs.Runs.{Trace}
use Rattle.aig_model.specs.Netlist.{Netlist}
use Rattle.local_stim.specs.declared.limits.TheConstants.{MOST_BYTES, MOST_ROWS}

-- a character of a row and its bit; an `x` counts as 0
abbrev pub IsBit : ℕ → Bool → Type 0
IsBit character false = (character ≡ 48) ⊎ (character ≡ 120)
IsBit character true = character ≡ 49

-- a row of characters, one for each bit
abbrev pub IsRowText : List ℕ → List Bool → Type 0
IsRowText [] [] = ⊤
IsRowText (c ∷ cs) (b ∷ bs) = IsBit c b × IsRowText cs bs
IsRowText [] (b ∷ bs) = ⊥
IsRowText (c ∷ cs) [] = ⊥

-- a line for each row
abbrev pub AreRowLines : List ℕ → List (List Bool) → Type 0
AreRowLines text [] = text ≡ []
AreRowLines text (row ∷ rows) = (line : List ℕ) × (others : List ℕ) × IsRowText line row
    × (text ≡ line ++ 10 ∷ others)
    × AreRowLines others rows

-- nothing, or an LF and then any bytes
abbrev pub IsLineEnd : List ℕ → Type 0
IsLineEnd [] = ⊤
IsLineEnd (b ∷ bytes) = b ≡ 10

-- A line `1`, a line `b` with the property, the first latch row, an input row for each step, and a line of one dot, whose LF
-- may lack. What follows it is not read.
pub record IsStimulusText (d : Netlist) (bytes : List ℕ) (p : ℕ) (m : Trace) : Type 0 where
  pub number : List ℕ
  pub first : List ℕ
  pub rows : List ℕ
  pub after : List ℕ
  pub bytes_are : bytes ≡ 49 ∷ 10 ∷ 98 ∷ number ++ 10 ∷ first ++ 10 ∷ rows ++ 46 ∷ after
  pub ends : IsLineEnd after
  pub property : IsNumber number p
  pub known : p < length d.bads
  pub first_row : IsRowText first m.first
  pub latches : length m.first ≡ length d.latches
  pub input_rows : AreRowLines rows m.inputs
  pub inputs : All (λ row. length row ≡ length d.inputs) m.inputs
  pub some : 0 < length m.inputs
  pub most : length m.inputs ≤ MOST_ROWS
  pub small : length bytes ≤ MOST_BYTES

-- the character in which a bit is written
abbrev pub bit_character : Bool → ℕ
bit_character b = if b then 49 else 48

-- the line in which a row is written
abbrev pub row_line : List Bool → List ℕ
row_line row = map bit_character row ++ 10 ∷ []

-- the one text in which a stimulus of property p is written: no leading zero, no `x`, the LF behind the dot, and nothing more
abbrev pub stimulus_text : ℕ → Trace → List ℕ
stimulus_text p m = 49 ∷ 10 ∷ 98 ∷ decimal p ++ 10 ∷ map bit_character m.first
    ++ 10 ∷ flat_map row_line m.inputs ++ 46 ∷ 10 ∷ []

-- the design has the property, the rows have its widths, and there is a step
pub record Suits (d : Netlist) (p : ℕ) (m : Trace) : Type 0 where
  pub property : p < length d.bads
  pub first : length m.first ≡ length d.latches
  pub rows : All (λ row. length row ≡ length d.inputs) m.inputs
  pub some : 0 < length m.inputs

-- a stimulus that suits the design is within the limits, as a text too
pub record IsWithinLimits (p : ℕ) (m : Trace) : Type 0 where
  pub number : p < 2 ^ 64
  pub most : length m.inputs ≤ MOST_ROWS
  pub small : length (stimulus_text p m) ≤ MOST_BYTES

-- what is written of a stimulus within the limits is a text that spells it
abbrev pub WrittenIsSpelled : Type 0
WrittenIsSpelled = (d : Netlist) (p : ℕ) (m : Trace) → Suits d p m → IsWithinLimits p m
    → IsStimulusText d (stimulus_text p m) p m
