-- Whole lines as they are read, without their LF.
use Rattle.std.specs.Prelude.{ℕ, ◌==◌, ◌&&◌, ◌||◌, Bool, true, false, not, if◌then◌else◌, List, [], ◌∷◌, length, map, bytes_eq, codes, Option, Some, None, option_map}
use Rattle.std.specs.List.{list_all}
use Rattle.ja_text.specs.Lines.{word_at}
use Rattle.report.specs.declared.parts.PropLine.{PropLine}
use Rattle.report.specs.declared.parts.Sizes.{Sizes}
use Rattle.report.specs.Tokens.{◌>>=◌, small_behind, mark_at}

-- a value with nothing behind it
abbrev pub ended : {X : Type 0} → X × List ℕ → Option X
ended (x, []) = Some x
ended (x, b ∷ bytes) = None

-- a number behind a space
abbrev pub spaced_at : List ℕ → Option (ℕ × List ℕ)
spaced_at bytes = small_behind (codes " ") bytes

-- the word and a number
unfoldable pub count_of : List ℕ → List ℕ → Option ℕ
count_of word line = do
  count ← small_behind word line
  ended count

-- `design` and the six sizes
unfoldable pub sizes_of : List ℕ → Option Sizes
sizes_of line = do
  rest ← word_at (codes "design") line
  vars ← spaced_at rest
  inputs ← spaced_at vars.1
  latches ← spaced_at inputs.1
  gates ← spaced_at latches.1
  props ← spaced_at gates.1
  constraints ← count_of (codes " ") props.1
  Some (record {
    vars = vars.0;
    inputs = inputs.0;
    latches = latches.0;
    gates = gates.0;
    props = props.0;
    constraints = constraints;
  })

-- what is behind the word that stands there
abbrev pub first_expectation : Option (List ℕ) → Option (List ℕ) → Option (Bool × List ℕ)
first_expectation (Some rest) fail = Some (true, rest)
first_expectation None (Some rest) = Some (false, rest)
first_expectation None None = None

-- whether the property was expected to hold
unfoldable pub expectation_at : List ℕ → Option (Bool × List ℕ)
expectation_at bytes = first_expectation (word_at (codes " hold ") bytes) (word_at (codes " fail ") bytes)

-- the value, where the test holds
abbrev pub where_true : {X : Type 0} → Bool → Option X → Option X
where_true true found = found
where_true false found = None

-- the line of property p
unfoldable pub prop_of : ℕ → List ℕ → Option PropLine
prop_of p line = do
  named ← small_behind (codes "b") line
  expectation ← expectation_at named.1
  mark ← mark_at expectation.1
  where_true (named.0 == p) (ended (record { assumed = expectation.0; mark = mark.0 }, mark.1))

-- the word and this number
unfoldable pub is_named : List ℕ → ℕ → List ℕ → Option ℕ
is_named word p line = do
  n ← count_of word line
  where_true (n == p) (Some n)

-- 0 or 1
abbrev pub is_bit_character : ℕ → Bool
is_bit_character c = c == 48 || c == 49

-- a row of so many bits
unfoldable pub row_of : ℕ → List ℕ → Option (List Bool)
row_of width line = where_true (list_all is_bit_character line && length line == width) (Some (map (λ c. c == 49) line))

-- such a row, or none where the rows end
unfoldable pub next_row_of : ℕ → List ℕ → Option (Option (List Bool))
next_row_of width line = if bytes_eq line (codes ".") then Some None else option_map (λ row. Some row) (row_of width line)

-- whether all is joined
unfoldable pub joined_of : List ℕ → Option Bool
joined_of line =
    if bytes_eq line (codes "joined yes") then Some true else
    if bytes_eq line (codes "joined no") then Some false else None

-- how many entries of a journal follow, which are some where there are clauses; none at the end
unfoldable pub journal_of : ℕ → List ℕ → Option (Option ℕ)
journal_of clauses line = if bytes_eq line (codes "end") then Some None else do
  count ← count_of (codes "journal ") line
  where_true (not (count == 0) || clauses == 0) (Some (Some count))
