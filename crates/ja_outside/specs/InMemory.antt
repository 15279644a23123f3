-- A shelf and a sink in memory, and what their calls leave.
use Rattle.std.specs.Prelude.{ℕ, ◌-◌, ◌==◌, ◌&&◌, ◌++◌, Bool, nat_lt, bytes_eq, if◌then◌else◌, List, [], ◌∷◌, length, take}
use Rattle.std.specs.Prelude.{Option, Some, None}
use Rattle.std.specs.List.{list_any}
use Rattle.ja_base.specs.Meter.{next_count}

-- the files by name, what is left of the selected one, at most how many bytes a read gives, the numbers of the calls that
-- fail, and the calls and faults so far
pub record ShelfInMemory : Type 0 where
  pub files : List (List ℕ × List ℕ)
  pub left : Option (List ℕ)
  pub piece : ℕ
  pub fails : List ℕ
  pub calls : ℕ
  pub faults : ℕ

-- the first file of this name
abbrev pub file_of : List (List ℕ × List ℕ) → List ℕ → Option (List ℕ)
file_of [] name = None
file_of (file ∷ files) name = if bytes_eq file.0 name then Some file.1 else file_of files name

-- the next call is one of those that fail
abbrev pub is_to_fail : ShelfInMemory → Bool
is_to_fail shelf = list_any (λ n. n == shelf.calls) shelf.fails

-- the shelf after the next call, which is counted, and leaves this
abbrev pub after_call : ShelfInMemory → Option (List ℕ) → ShelfInMemory
after_call shelf left = record shelf {
  left = left;
  calls = next_count shelf.calls;
  faults = if is_to_fail shelf then next_count shelf.faults else shelf.faults;
}

-- what is left when a name was selected
abbrev pub left_by_select : ShelfInMemory → List ℕ → Option (List ℕ)
left_by_select shelf name = if is_to_fail shelf then None else file_of shelf.files name

-- the bytes written so far, how many more fit, and the faults
pub record SinkInMemory : Type 0 where
  pub bytes : List ℕ
  pub room : ℕ
  pub faults : ℕ

-- no byte of the piece fits, and it has some
abbrev pub is_full : SinkInMemory → List ℕ → Bool
is_full sink piece = nat_lt 0 (length piece) && sink.room == 0

-- the sink after a piece: it takes what fits, and counts a piece of which nothing fits
abbrev pub wrote : SinkInMemory → List ℕ → SinkInMemory
wrote sink piece = record {
  bytes = sink.bytes ++ take sink.room piece;
  room = sink.room - length piece;
  faults = if is_full sink piece then next_count sink.faults else sink.faults;
}
