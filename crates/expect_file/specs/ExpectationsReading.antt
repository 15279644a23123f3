-- Reading an expectations file line by line: what it says, or the first rule that it breaks.
use Rattle.std.specs.Prelude.{ℕ, ◌+◌, ◌==◌, Bool, true, false, not, nat_lt, if◌then◌else◌, List, [], ◌∷◌, length, replicate, Option, Some, None, option_map, Result, Ok, Err, bytes_eq, ok_or, slice_set}
use Rattle.std.specs.List.{slice_split}
use Rattle.ja_base.specs.Literals.{bit}
use Rattle.ja_text.specs.Lines.{word_at}
use Rattle.ja_text.specs.Numbers.{number_at, whole_number}
use Rattle.ja_text.specs.Reading.{◌>>=◌}
use Rattle.aig_model.specs.Netlist.{Netlist}
use Rattle.expect_file.specs.declared.limits.TheConstants.{MOST_BYTES}
use Rattle.expect_file.specs.declared.line.Entry.{Entry}
use Rattle.expect_file.specs.declared.found.Found.{Found}
use Rattle.expect_file.specs.declared.refusal.ExpectRefusal.{ExpectRefusal}
use Rattle.expect_file.specs.declared.refusal.ExpectRefusal.TheVariants.{Line, Unknown, Twice, TooLarge}
use Rattle.expect_file.specs.ExpectationsText.{opening, word}

-- the lines, between which LF stands
abbrev pub parts : List ℕ → List (List ℕ)
parts bytes = slice_split (λ b. b == 10) bytes

-- the lines of what follows, if something follows
abbrev pub parts_behind : Option (List ℕ) → List (List ℕ)
parts_behind None = []
parts_behind (Some bytes) = parts bytes

-- an empty line, or one that begins with `#`
abbrev pub is_remark : List ℕ → Bool
is_remark [] = true
is_remark (c ∷ cs) = c == 35

-- what is said of the property whose digits these are
abbrev pub entry_with : Bool → List ℕ → Option Entry
entry_with holds digits =
    option_map (λ p. record { property = p; holds = holds }) (whole_number (number_at digits))

-- what is said behind `hold b`, or behind `fail b`
abbrev pub hold_or_fail : Option (List ℕ) → Option (List ℕ) → Option Entry
hold_or_fail (Some digits) other = entry_with true digits
hold_or_fail None (Some digits) = entry_with false digits
hold_or_fail None None = None

-- `hold b` or `fail b`, and a number
unfoldable pub entry_of : List ℕ → Option Entry
entry_of line = hold_or_fail (word_at (word true) line) (word_at (word false) line)

-- the entry joins those so far
abbrev pub with_entry : Found → Entry → Found
with_entry found entry = record {
  named = slice_set found.named entry.property true;
  expect = if entry.holds then found.expect else slice_set found.expect entry.property false;
}

-- an entry of a property that the design has and that no line named before
abbrev pub entry_taken : ℕ → Found → Entry → Result Found ExpectRefusal
entry_taken number found entry =
    if not (nat_lt entry.property (length found.named)) then Err (Unknown number) else
    if bit found.named entry.property then Err (Twice number) else Ok (with_entry found entry)

-- the line of this number, behind those so far
unfoldable pub line_read : ℕ → Found → List ℕ → Result Found ExpectRefusal
line_read number found line = if is_remark line then Ok found else do
  entry ← ok_or (entry_of line) (Line number)
  entry_taken number found entry

-- the lines from this number on
unfoldable pub lines_read : ℕ → Found → List (List ℕ) → Result Found ExpectRefusal
lines_read number found [] = Ok found
lines_read number found (line ∷ lines) = line_read number found line
    >>= λ next. lines_read (number + 1) next lines

-- no line named one of so many properties
abbrev pub nothing_found : ℕ → Found
nothing_found count = record { named = replicate count false; expect = replicate count true }

-- the first line, and those behind it
unfoldable pub all_read : ℕ → List (List ℕ) → Result (List Bool) ExpectRefusal
all_read count [] = Err (Line 1)
all_read count (first ∷ lines) = if not (bytes_eq first opening) then Err (Line 1) else do
  found ← lines_read 2 (nothing_found count) lines
  Ok found.expect

-- what a text of a file says
unfoldable pub expectations_of : Netlist → List ℕ → Result (List Bool) ExpectRefusal
expectations_of d bytes = if nat_lt MOST_BYTES (length bytes) then Err TooLarge
    else all_read (length d.bads) (parts bytes)
