-- What a sink does to the bytes that it tells. One that does not tell claims nothing.
use Rattle.std.specs.Prelude.{◌≡◌, ℕ, ◌<◌, List, ◌++◌, length, take, Option, Some, None, ⊤}

-- these bytes were appended
abbrev pub Appends : Option (List ℕ) → Option (List ℕ) → List ℕ → Type 0
Appends None after bytes = ⊤
Appends (Some before) after bytes = after ≡ Some (before ++ bytes)

-- a first part of these bytes was appended, and not all
abbrev pub AppendsPart : Option (List ℕ) → Option (List ℕ) → List ℕ → Type 0
AppendsPart before after bytes = (n : ℕ) × (n < length bytes) × Appends before after (take n bytes)
