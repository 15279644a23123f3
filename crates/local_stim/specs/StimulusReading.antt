-- Reading a stimulus text line by line: what it holds, or the first rule that it breaks.
use Rattle.std.specs.Prelude.{ℕ, zero, suc, ◌+◌, ◌-◌, ◌==◌, ◌||◌, Bool, not, nat_lt, if◌then◌else◌, List, [], ◌∷◌, ◌++◌, length, map, Option, Some, None, Result, Ok, Err, bytes_eq, ok_or}
use Rattle.std.specs.List.{list_all}
use Rattle.ja_base.specs.Runs.{Trace}
use Rattle.ja_text.specs.Numbers.{number_at, whole_number}
use Rattle.ja_text.specs.Lines.{line_at}
use Rattle.ja_text.specs.Reading.{◌>>=◌}
use Rattle.aig_model.specs.Netlist.{Netlist}
use Rattle.local_stim.specs.declared.limits.TheConstants.{MOST_BYTES, MOST_ROWS}
use Rattle.local_stim.specs.declared.refusal.StimRefusal.{StimRefusal}
use Rattle.local_stim.specs.declared.refusal.StimRefusal.TheVariants.{Line, Unknown, Width, Short, TooLarge}

-- `.`, which ends the rows
abbrev pub is_dot : List ℕ → Bool
is_dot line = bytes_eq line (46 ∷ [])

abbrev pub line_or_dot : ℕ → List ℕ → Option (List ℕ × List ℕ)
    → Result (List ℕ × List ℕ) StimRefusal
line_or_dot number rest (Some found) = Ok found
line_or_dot number rest None = if is_dot rest then Ok (rest, []) else Err (Short number)

-- the line that is due, and what follows it; it ends with LF, which a `.` at the end may lack
unfoldable pub due_line : ℕ → List ℕ → Result (List ℕ × List ℕ) StimRefusal
due_line number rest = line_or_dot number rest (line_at rest)

-- 0, 1 or x
abbrev pub is_row_character : ℕ → Bool
is_row_character c = c == 48 || c == 49 || c == 120

-- the bits of a row, of which there must be so many; an x is 0
unfoldable pub bits_of : ℕ → ℕ → List ℕ → Result (List Bool) StimRefusal
bits_of width number line =
    if not (list_all is_row_character line) then Err (Line number) else
    if not (length line == width) then Err (Width number) else Ok (map (λ c. c == 49) line)

-- `b` and a number
unfoldable pub property_of : List ℕ → Option ℕ
property_of [] = None
property_of (b ∷ bs) = if b == 98 then whole_number (number_at bs) else None

-- the property of the second line, which must be one of so many
unfoldable pub known_property : ℕ → List ℕ → Result ℕ StimRefusal
known_property count line = do
  p ← ok_or (property_of line) (Line 2)
  if nat_lt p count then Ok p else Err (Unknown 2)

-- the input row of this line and what follows it, or none at the dot
unfoldable pub next_row_at : ℕ → ℕ → List ℕ → Result (Option (List Bool × List ℕ)) StimRefusal
next_row_at width number rest = do
  line ← due_line number rest
  if is_dot line.0 then Ok None else do
    bits ← bits_of width number line.0
    Ok (Some (bits, line.1))

-- the dot must stand here, since there is no room for another row
unfoldable pub dot_at : ℕ → List ℕ → Result (List (List Bool)) StimRefusal
dot_at number rest = do
  line ← due_line number rest
  if is_dot line.0 then Ok [] else Err TooLarge

-- what is read behind a row
abbrev pub rows_behind : (List ℕ → Result (List (List Bool)) StimRefusal)
    → Option (List Bool × List ℕ)
    → Result (List (List Bool)) StimRefusal
rows_behind others None = Ok []
rows_behind others (Some found) = others found.1 >>= λ rows. Ok (found.0 ∷ rows)

-- input rows up to the dot, at most so many
unfoldable pub rows_at : ℕ → ℕ → ℕ → List ℕ → Result (List (List Bool)) StimRefusal
rows_at width zero number rest = dot_at number rest
rows_at width (suc left) number rest = next_row_at width number rest >>= λ found. rows_behind
    (rows_at width left (number + 1)) found

-- the rows that were read, and then what is read
abbrev pub with_rows : List (List Bool) → Result (List (List Bool)) StimRefusal
    → Result (List (List Bool)) StimRefusal
with_rows front read = read >>= λ rows. Ok (front ++ rows)

-- the first line
unfoldable pub after_one : List ℕ → Result (List ℕ) StimRefusal
after_one bytes = do
  line ← due_line 1 bytes
  if bytes_eq line.0 (49 ∷ []) then Ok line.1 else Err (Line 1)

-- the property, and the lines behind it
unfoldable pub property_at : ℕ → List ℕ → Result (ℕ × List ℕ) StimRefusal
property_at count rest = do
  line ← due_line 2 rest
  p ← known_property count line.0
  Ok (p, line.1)

-- a row that must stand at this line
unfoldable pub row_at : ℕ → ℕ → List ℕ → Result (List Bool × List ℕ) StimRefusal
row_at width number rest = do
  line ← due_line number rest
  bits ← bits_of width number line.0
  Ok (bits, line.1)

-- a stimulus of at most so many input rows
unfoldable pub stimulus_at : ℕ → Netlist → List ℕ → Result (ℕ × Trace) StimRefusal
stimulus_at most d bytes = do
  named ← after_one bytes
  property ← property_at (length d.bads) named
  first ← row_at (length d.latches) 3 property.1
  input ← row_at (length d.inputs) 4 first.1
  rows ← with_rows (input.0 ∷ []) (rows_at (length d.inputs) most 5 input.1)
  Ok (property.0, record { first = first.0; inputs = rows })

-- what a text of a file holds
unfoldable pub stimulus_of : Netlist → List ℕ → Result (ℕ × Trace) StimRefusal
stimulus_of d bytes = if nat_lt MOST_BYTES (length bytes) then Err TooLarge
    else stimulus_at (MOST_ROWS - 1) d bytes
