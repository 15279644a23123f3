-- The text of an expectations file, and what it says of the properties of a design.
use Rattle.std.specs.Prelude.{◌≡◌, ◌≢◌, ℕ, ◌<◌, ◌≤◌, ◌⊎◌, ◌↔◌, ⊤, Bool, true, false, List, [], ◌∷◌, ◌++◌, length, codes, All, AllPairs, Contains}
use Rattle.std.specs.List.{join_with_byte}
use Rattle.ja_base.specs.Literals.{bit}
use Rattle.ja_text.specs.Numbers.{IsNumber}
use Rattle.ja_text.specs.Lines.{IsOneLine}
use Rattle.aig_model.specs.Netlist.{Netlist}
use Rattle.expect_file.specs.declared.limits.TheConstants.{MOST_BYTES}
use Rattle.expect_file.specs.declared.line.Entry.{Entry}

-- the first line
abbrev pub opening : List ℕ
opening = codes "expect 1"

-- what stands before the number of a property that is expected to hold, or to fail
abbrev pub word : Bool → List ℕ
word true = codes "hold b"
word false = codes "fail b"

-- a line that says nothing: it is empty, or begins with `#`
abbrev pub IsRemark : List ℕ → Type 0
IsRemark [] = ⊤
IsRemark (c ∷ cs) = c ≡ 35

-- a line that says whether a property is expected to hold
abbrev pub Says : List ℕ → Entry → Type 0
Says line entry = (number : List ℕ) × IsNumber number entry.property
    × (line ≡ word entry.holds ++ number)

-- each line says nothing, or the next of the entries
abbrev pub AreEntries : List (List ℕ) → List Entry → Type 0
AreEntries [] entries = entries ≡ []
AreEntries (line ∷ lines) entries =
    (IsRemark line × AreEntries lines entries)
    ⊎ ((entry : Entry) × (others : List Entry) × Says line entry × (entries ≡ entry ∷ others)
    × AreEntries lines others)

-- The lines have an LF between each two, so behind a last LF stands an empty line more. Each entry is of a property of the
-- design, no two are of the same, and a property is expected to hold unless an entry says that it fails.
pub record IsExpectations (d : Netlist) (bytes : List ℕ) (expected : List Bool) : Type 0 where
  pub lines : List (List ℕ)
  pub entries : List Entry
  pub bytes_are : bytes ≡ join_with_byte 10 (opening ∷ lines)
  pub each_line : All IsOneLine lines
  pub says : AreEntries lines entries
  pub known : All (λ e. e.property < length d.bads) entries
  pub once : AllPairs (λ e f. e.property ≢ f.property) entries
  pub all : length expected ≡ length d.bads
  pub fails : (i : ℕ) → i < length d.bads
      → (bit expected i ≡ false) ↔ Contains entries (record { property = i; holds = false })
  pub small : length bytes ≤ MOST_BYTES
