-- The files of a shelf in memory, as its fields hold them.
use Rattle.std.specs.Prelude.{ℕ, ◌≤◌, List, length, map, drop, Option, Some, None, option_map, slice_get, IsSomeAnd, String, string_bytes, Vec, ⊤}
use Rattle.std.specs.declared.alloc.Global.{Global}
use Rattle.ja_outside.specs.declared.mem_shelf.Place.{Place}

-- each file's name and its bytes
abbrev pub files_of : List (String Global × Vec ℕ Global) → List (List ℕ × List ℕ)
files_of files = map (λ file. (string_bytes file.0, file.1.items)) files

-- the bytes of the file at a place of the list
abbrev pub content_at : List (String Global × Vec ℕ Global) → ℕ → Option (List ℕ)
content_at files k = option_map (λ file. file.1.items) (slice_get files k)

-- what is left of the selected file
abbrev pub left_at : List (String Global × Vec ℕ Global) → Option Place → Option (List ℕ)
left_at files None = None
left_at files (Some place) = option_map (drop place.at) (content_at files place.file)

-- the selected file is one of these, and the place is within it
abbrev pub IsWithin : List (String Global × Vec ℕ Global) → Option Place → Type 0
IsWithin files None = ⊤
IsWithin files (Some place) =
    IsSomeAnd (content_at files place.file) (λ bytes. place.at ≤ length bytes)
