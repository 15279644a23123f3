-- The header of an AIGER 1.9 file, and the sizes that this product takes.
use Rattle.std.specs.Prelude.{◌≡◌, ℕ, ◌+◌, ◌≤◌, ◌==◌, if◌then◌else◌, List, [], ◌∷◌, ◌++◌, length, slice_index}
use Rattle.ja_text.specs.Rows.{IsRow}
use Rattle.aiger_lines.specs.declared.form.Form.{Form}
use Rattle.aiger_lines.specs.declared.form.Form.TheVariants.{Ascii, Binary}
use Rattle.aiger_lines.specs.declared.limits.TheConstants.{MOST_VARS, MOST_PROPERTIES, MOST_LINES}
use Rattle.aiger_lines.specs.declared.sizes.Header.{Header}

-- `aag` or `aig`
abbrev pub word_of : Form → List ℕ
word_of Ascii = 97 ∷ 97 ∷ 103 ∷ []
word_of Binary = 97 ∷ 105 ∷ 103 ∷ []

-- the sizes M I L O A B C J F; numbers that are left out are 0
abbrev pub header_of : List ℕ → Header
header_of ns = record {
  vars = slice_index ns 0;
  inputs = slice_index ns 1;
  latches = slice_index ns 2;
  outputs = slice_index ns 3;
  gates = slice_index ns 4;
  bads = slice_index ns 5;
  constraints = slice_index ns 6;
  justice = slice_index ns 7;
  fairness = slice_index ns 8;
}

-- the word of the form, then five to nine numbers, each after one space, then LF
pub record IsHeaderLine (form : Form) (text : List ℕ) (h : Header) : Type 0 where
  pub row : List ℕ
  pub numbers : List ℕ
  pub text_is : text ≡ word_of form ++ 32 ∷ row
  pub spelled : IsRow row numbers
  pub five : 5 ≤ length numbers
  pub nine : length numbers ≤ 9
  pub header_is : h ≡ header_of numbers

-- the bads are the properties, and where there are none the outputs
abbrev pub property_count : Header → ℕ
property_count h = if h.bads == 0 then h.outputs else h.bads

-- how many variables the sections define
abbrev pub definition_count : Header → ℕ
definition_count h = h.inputs + h.latches + h.gates

-- in the binary form each variable is defined, and in the ASCII form some may not be
abbrev pub FitsSum : Form → Header → Type 0
FitsSum Ascii h = definition_count h ≤ h.vars
FitsSum Binary h = definition_count h ≡ h.vars

-- the sizes that are taken
pub record IsWithinLimits (form : Form) (h : Header) : Type 0 where
  pub vars : h.vars ≤ MOST_VARS
  pub justice : h.justice ≡ 0
  pub fairness : h.fairness ≡ 0
  pub sum : FitsSum form h
  pub properties : property_count h ≤ MOST_PROPERTIES
  pub outputs : h.outputs ≤ MOST_LINES
  pub constraints : h.constraints ≤ MOST_LINES
