-- The binary form of AIGER 1.9: which bytes spell which lists, and which design that is.
use Rattle.std.specs.Prelude.{◌≡◌, ℕ, ◌+◌, ◌*◌, ◌<◌, ◌≤◌, ◌==◌, if◌then◌else◌, Some, List, [], ◌∷◌, ◌++◌, length, slice_get}
use Rattle.ja_base.specs.Circuit.{Circuit}
use Rattle.aig_model.specs.declared.netlist.Latch.{Latch}
use Rattle.aig_model.specs.declared.netlist.AndGate.{AndGate}
use Rattle.aig_model.specs.declared.netlist.Parts.{Parts}
use Rattle.aig_model.specs.Netlist.{circuit}
use Rattle.aig_model.specs.Refusals.{netlist_of, AreInRange}
use Rattle.aiger_lines.specs.declared.form.Form.TheVariants.{Binary}
use Rattle.aiger_lines.specs.declared.limits.TheConstants.{MOST_BYTES}
use Rattle.aiger_lines.specs.declared.sizes.Header.{Header}
use Rattle.aiger_lines.specs.Header.{IsHeaderLine, IsWithinLimits}
use Rattle.aiger_lines.specs.Lines.{AreLines, IsLiteralLine, HasReset}
use Rattle.aiger_lines.specs.Tail.{IsTail}
use Rattle.aiger_lines.specs.Files.{Counts}
use Rattle.aiger_binary.specs.Delta.{IsDelta}

-- the literal of a latch's next state, and its reset
abbrev pub IsLatchLine : List ℕ → Latch → Type 0
IsLatchLine line k = HasReset line (k.next ∷ []) k.lit k.reset

-- two deltas: from a gate's left side down to its first right side, which is below it, and from there to the second one
pub record IsGateText (text : List ℕ) (g : AndGate) : Type 0 where
  pub first : List ℕ
  pub second : List ℕ
  pub delta0 : ℕ
  pub delta1 : ℕ
  pub text_is : text ≡ first ++ second
  pub spelled0 : IsDelta first delta0
  pub spelled1 : IsDelta second delta1
  pub lhs_is : g.lhs ≡ g.rhs0 + delta0
  pub rhs0_is : g.rhs0 ≡ g.rhs1 + delta1
  pub below : g.rhs0 < g.lhs

-- the texts of a file's parts, in order
pub record Sections : Type 0 where
  pub header : List ℕ
  pub latches : List ℕ
  pub outputs : List ℕ
  pub bads : List ℕ
  pub constraints : List ℕ
  pub gates : List ℕ
  pub tail : List ℕ

abbrev pub text_of : Sections → List ℕ
text_of s = s.header ++ s.latches ++ s.outputs ++ s.bads ++ s.constraints ++ s.gates ++ s.tail

-- the items' literals, none negated, are over the variables from this one on, one for each
abbrev pub AreNumbered : {X : Type 0} → (X → ℕ) → ℕ → List X → Type 0
AreNumbered {X} literal_of first xs = (i : ℕ) (x : X) → slice_get xs i ≡ Some x
    → literal_of x ≡ 2 * (first + i)

-- the variables from 1 on are those of the inputs, then of the latches, then of the gates
pub record AreInOrder (h : Header) (p : Parts) : Type 0 where
  pub inputs : AreNumbered (λ l. l) 1 p.inputs
  pub latches : AreNumbered (λ (k : Latch). k.lit) (h.inputs + 1) p.latches
  pub gates : AreNumbered (λ (g : AndGate). g.lhs) (h.inputs + h.latches + 1) p.gates

-- each section but the inputs has a text for each of its items
pub record AreSpelled (h : Header) (p : Parts) (bads : List ℕ) (s : Sections) : Type 0 where
  pub header : IsHeaderLine Binary s.header h
  pub latches : AreLines IsLatchLine s.latches p.latches
  pub outputs : AreLines IsLiteralLine s.outputs p.outputs
  pub bad_lines : AreLines IsLiteralLine s.bads bads
  pub constraints : AreLines IsLiteralLine s.constraints p.constraints
  pub gates : AreLines IsGateText s.gates p.gates
  pub tail : IsTail h s.tail

-- The bytes spell these lists. The bads are the properties, and where there are none the outputs. Sizes are within the
-- limits, the variables are those of the items in order, and literals are in range.
pub record Spells (bytes : List ℕ) (p : Parts) : Type 0 where
  pub head : Header
  pub bads : List ℕ
  pub sections : Sections
  pub bytes_are : bytes ≡ text_of sections
  pub spelled : AreSpelled head p bads sections
  pub counts : Counts head p bads
  pub order : AreInOrder head p
  pub properties : p.bads ≡ (if head.bads == 0 then p.outputs else bads)
  pub file : length bytes ≤ MOST_BYTES
  pub limits : IsWithinLimits Binary head
  pub range : AreInRange p

-- the bytes are a design in the binary form, and it is this one
abbrev pub IsBinaryDesign : List ℕ → Circuit → Type 0
IsBinaryDesign bytes c = (p : Parts) × Spells bytes p × (c ≡ circuit (netlist_of p))
