-- The ASCII form of AIGER 1.9: which bytes spell which lists, and which design that is.
use Rattle.std.specs.Prelude.{◌≡◌, ℕ, ◌≤◌, ◌==◌, if◌then◌else◌, List, [], ◌∷◌, ◌++◌, length}
use Rattle.ja_text.specs.Rows.{IsRow}
use Rattle.ja_base.specs.Circuit.{Circuit}
use Rattle.aig_model.specs.declared.netlist.Latch.{Latch}
use Rattle.aig_model.specs.declared.netlist.AndGate.{AndGate}
use Rattle.aig_model.specs.declared.netlist.Parts.{Parts}
use Rattle.aig_model.specs.Netlist.{circuit}
use Rattle.aig_model.specs.Refusals.{netlist_of, AreInRange, MakesDesign}
use Rattle.aiger_lines.specs.declared.form.Form.TheVariants.{Ascii}
use Rattle.aiger_lines.specs.declared.limits.TheConstants.{MOST_BYTES}
use Rattle.aiger_lines.specs.declared.sizes.Header.{Header}
use Rattle.aiger_lines.specs.Header.{IsHeaderLine, IsWithinLimits}
use Rattle.aiger_lines.specs.Lines.{AreLines, IsLiteralLine, HasReset}
use Rattle.aiger_lines.specs.Tail.{IsTail}
use Rattle.aiger_lines.specs.Files.{Counts}

-- a latch's literal, the literal of its next state, and its reset
abbrev pub IsLatchLine : List ℕ → Latch → Type 0
IsLatchLine line k = HasReset line (k.lit ∷ k.next ∷ []) k.lit k.reset

-- a gate's left side and its right sides
abbrev pub IsGateLine : List ℕ → AndGate → Type 0
IsGateLine line g = IsRow line (g.lhs ∷ g.rhs0 ∷ g.rhs1 ∷ [])

-- the texts of a file's parts, in order
pub record Sections : Type 0 where
  pub header : List ℕ
  pub inputs : List ℕ
  pub latches : List ℕ
  pub outputs : List ℕ
  pub bads : List ℕ
  pub constraints : List ℕ
  pub gates : List ℕ
  pub tail : List ℕ

abbrev pub text_of : Sections → List ℕ
text_of s = s.header ++ s.inputs ++ s.latches ++ s.outputs ++ s.bads ++ s.constraints ++ s.gates
    ++ s.tail

-- each section has a line for each of its items
pub record AreSpelled (h : Header) (p : Parts) (bads : List ℕ) (s : Sections) : Type 0 where
  pub header : IsHeaderLine Ascii s.header h
  pub inputs : AreLines IsLiteralLine s.inputs p.inputs
  pub latches : AreLines IsLatchLine s.latches p.latches
  pub outputs : AreLines IsLiteralLine s.outputs p.outputs
  pub bad_lines : AreLines IsLiteralLine s.bads bads
  pub constraints : AreLines IsLiteralLine s.constraints p.constraints
  pub gates : AreLines IsGateLine s.gates p.gates
  pub tail : IsTail h s.tail

-- The bytes spell these lists. The bads are the properties, and where there are none the outputs. Sizes are within the
-- limits, literals in range, each variable is defined at most once and each that is used is defined, and no gate depends on
-- itself.
pub record Spells (bytes : List ℕ) (p : Parts) : Type 0 where
  pub head : Header
  pub bads : List ℕ
  pub sections : Sections
  pub bytes_are : bytes ≡ text_of sections
  pub spelled : AreSpelled head p bads sections
  pub counts : Counts head p bads
  pub properties : p.bads ≡ (if head.bads == 0 then p.outputs else bads)
  pub file : length bytes ≤ MOST_BYTES
  pub limits : IsWithinLimits Ascii head
  pub range : AreInRange p
  pub design : MakesDesign p

-- the bytes are a design in the ASCII form, and it is this one
abbrev pub IsAsciiDesign : List ℕ → Circuit → Type 0
IsAsciiDesign bytes c = (p : Parts) × Spells bytes p × (c ≡ circuit (netlist_of p))
