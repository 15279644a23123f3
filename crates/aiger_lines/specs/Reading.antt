-- The header and the lines of numbers, read from left to right: what each is, or the first refusal that is met.
use Rattle.std.specs.Prelude.{ℕ, ◌+◌, ◌-◌, ◌*◌, ◌==◌, ◌||◌, ◌&&◌, Bool, false, not, nat_lt, nat_le, if◌then◌else◌, List, [], ◌∷◌, length}
use Rattle.std.specs.Prelude.{Option, Some, None, is_some, option_and_then, ok_or, Result, Ok, Err}
use Rattle.std.specs.Option.{option_map_or}
use Rattle.ja_text.specs.Numbers.{number_at}
use Rattle.ja_text.specs.Lines.{space_at, word_at, line_at}
use Rattle.ja_text.specs.Rows.{row_at}
use Rattle.ja_text.specs.Reading.{◌>>=◌}
use Rattle.aig_model.specs.declared.netlist.Reset.{Reset}
use Rattle.aig_model.specs.declared.netlist.Reset.TheVariants.{Zero, One, Free}
use Rattle.aiger_lines.specs.declared.form.Form.{Form}
use Rattle.aiger_lines.specs.declared.form.Form.TheVariants.{Ascii, Binary}
use Rattle.aiger_lines.specs.declared.limits.TheConstants.{MOST_BYTES, MOST_VARS, MOST_PROPERTIES, MOST_LINES}
use Rattle.aiger_lines.specs.declared.sizes.Header.{Header}
use Rattle.aiger_lines.specs.declared.refusal.ReadRefusal.{ReadRefusal}
use Rattle.aiger_lines.specs.declared.refusal.ReadRefusal.TheVariants as refusal
use Rattle.aiger_lines.specs.declared.refusal.Large.TheVariants as large
use Rattle.aiger_lines.specs.Header.{word_of, header_of, property_count, definition_count}
use Rattle.aiger_lines.specs.Tail.{symbol_count}

-- ---- the header

-- a header has at least five numbers
abbrev pub sizes_of : List ℕ × List ℕ → Option (Header × List ℕ)
sizes_of row = if nat_lt (length row.0) 5 then None else Some (header_of row.0, row.1)

-- the sizes of a header with the word, and what follows its line
unfoldable pub header_line_at : List ℕ → List ℕ → Option (Header × List ℕ)
header_line_at word bytes = option_and_then sizes_of
    (option_and_then (row_at 9) (option_and_then space_at (word_at word bytes)))

-- M agrees with the numbers of inputs, latches and gates
abbrev pub fits_sum : Form → Header → Bool
fits_sum Ascii h = nat_le (definition_count h) h.vars
fits_sum Binary h = definition_count h == h.vars

-- sizes that are taken, or the first rule that they break
unfoldable pub taken_sizes : Form → Header → Result Header ReadRefusal
taken_sizes form h =
    if nat_lt MOST_VARS h.vars then Err (refusal.TooLarge large.Vars) else
    if nat_lt 0 h.justice || nat_lt 0 h.fairness then Err refusal.Liveness else
    if not (fits_sum form h) then Err (refusal.Header 0) else
    if nat_lt MOST_PROPERTIES (property_count h) then Err (refusal.TooLarge large.Props) else
    if nat_lt MOST_LINES h.outputs || nat_lt MOST_LINES h.constraints
    then Err (refusal.TooLarge large.Lines) else Ok h

-- a file is not too large
abbrev pub taken_file : List ℕ → Result (List ℕ) ReadRefusal
taken_file bytes = if nat_lt MOST_BYTES (length bytes) then Err (refusal.TooLarge large.File)
    else Ok bytes

-- the sizes of a file in the form, and what follows its header
unfoldable pub header_at : Form → List ℕ → Result (Header × List ℕ) ReadRefusal
header_at form bytes = do
  file ← taken_file bytes
  line ← ok_or (header_line_at (word_of form) file) (refusal.Header 0)
  sizes ← taken_sizes form line.0
  Ok (sizes, line.1)

-- ---- lines of numbers

-- where the rest begins, in a file of so many bytes
abbrev pub place : ℕ → List ℕ → ℕ
place size rest = size - length rest

-- what is wrong with a line that is no row of numbers
abbrev pub line_refusal : ℕ → List ℕ → ReadRefusal
line_refusal size bytes = if is_some (line_at bytes) then refusal.Line (place size bytes)
    else refusal.Short size

-- the numbers of the next line
unfoldable pub numbers_at : ℕ → List ℕ → Result (List ℕ × List ℕ) ReadRefusal
numbers_at size bytes = ok_or (row_at 9 bytes) (line_refusal size bytes)

-- the only number of a line
abbrev pub one_number : ℕ → List ℕ → Result ℕ ReadRefusal
one_number at (n ∷ []) = Ok n
one_number at _ = Err (refusal.Line at)

-- a literal that may be used
abbrev pub used_at : ℕ → ℕ → ℕ → Result ℕ ReadRefusal
used_at vars at n = if nat_le n (2 * vars + 1) then Ok n else Err (refusal.Range at)

-- what a number says of a latch's first state
abbrev pub reset_at : ℕ → ℕ → ℕ → Result Reset ReadRefusal
reset_at latch at n = if n == 0 then Ok Zero else if n == 1 then Ok One else if n == latch
    then Ok Free else Err
    (refusal.Range at)

-- the literal of the next line
unfoldable pub literal_at : ℕ → ℕ → List ℕ → Result (ℕ × List ℕ) ReadRefusal
literal_at vars size bytes = do
  row ← numbers_at size bytes
  n ← one_number (place size bytes) row.0
  l ← used_at vars (place size bytes) n
  Ok (l, row.1)

-- ---- symbols

-- a symbol stands there, if no LF does
abbrev pub is_symbol : Header → List ℕ → Bool
is_symbol h [] = false
is_symbol h (letter ∷ line) = option_map_or (λ n. nat_lt n.0 (symbol_count h letter)
    && is_some (space_at n.1))
    (number_at line) false
