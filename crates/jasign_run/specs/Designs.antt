-- Which bytes are a design, in one of the two forms of AIGER 1.9.
use Rattle.std.specs.Prelude.{ℕ, if◌then◌else◌, nat_eq, List}
use Rattle.std.specs.List.{starts_with}
use Rattle.ja_base.specs.Circuit.{Circuit}
use Rattle.aiger_lines.specs.declared.form.Form.{Form}
use Rattle.aiger_lines.specs.declared.form.Form.TheVariants.{Ascii, Binary}
use Rattle.aiger_lines.specs.declared.refusal.ReadRefusal.{ReadRefusal}
use Rattle.aiger_lines.specs.Header.{word_of}
use Rattle.aiger_ascii.specs.Grammar.{IsAsciiDesign}
use Rattle.aiger_ascii.specs.FirstRefusal as ascii
use Rattle.aiger_binary.specs.Grammar.{IsBinaryDesign}
use Rattle.aiger_binary.specs.FirstRefusal as binary

-- the form in which bytes are read: the binary one where they begin with its word
abbrev pub form_of : List ℕ → Form
form_of bytes = if starts_with nat_eq bytes (word_of Binary) then Binary else Ascii

-- the bytes are this design in the form
abbrev pub IsDesignIn : Form → List ℕ → Circuit → Type 0
IsDesignIn Ascii bytes c = IsAsciiDesign bytes c
IsDesignIn Binary bytes c = IsBinaryDesign bytes c

-- the first rule of the form that the bytes break
abbrev pub IsFirstRefusalIn : Form → List ℕ → ReadRefusal → Type 0
IsFirstRefusalIn Ascii bytes refusal = ascii.IsFirstRefusal bytes refusal
IsFirstRefusalIn Binary bytes refusal = binary.IsFirstRefusal bytes refusal

-- the bytes are this design, in the form of their first word
abbrev pub IsDesign : List ℕ → Circuit → Type 0
IsDesign bytes c = IsDesignIn (form_of bytes) bytes c

-- the first rule of that form that the bytes break
abbrev pub IsFirstRefusal : List ℕ → ReadRefusal → Type 0
IsFirstRefusal bytes refusal = IsFirstRefusalIn (form_of bytes) bytes refusal
