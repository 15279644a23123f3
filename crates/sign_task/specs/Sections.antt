-- What the sections of a report say, one by one: its face, the failures, and the clauses.
use Rattle.std.specs.Prelude.{◌≡◌, ℕ, Bool, Some, List, length, map, slice_get, All}
use Rattle.ja_base.specs.Circuit.{Problem}
use Rattle.ja_base.specs.Runs.{IsLocalFailure, IsReachable}
use Rattle.ja_base.specs.Invariants.{Covers, IsInductive, MeetsClauses}
use Rattle.aig_model.specs.Netlist.{Netlist}
use Rattle.store_core.specs.declared.mark.Mark.{Mark}
use Rattle.store_core.specs.declared.mark.Mark.TheVariants.{Proved}
use Rattle.report.specs.declared.parts.Sizes.{Sizes}
use Rattle.report.specs.declared.parts.PropLine.{PropLine}
use Rattle.report.specs.declared.parts.PropStim.{PropStim}
use Rattle.report.specs.Findings.{Findings, marks_of, failing_from}

-- how many of each the design has
abbrev pub sizes_of : Netlist → Sizes
sizes_of d = record {
  vars = d.vars;
  inputs = length d.inputs;
  latches = length d.latches;
  gates = length d.gates;
  props = length d.bads;
  constraints = length d.constraints;
}

-- whether each property was expected to hold, as the lines say
abbrev pub assumed_of : List PropLine → List Bool
assumed_of lines = map (λ (l : PropLine). l.assumed) lines

-- the report's line of this property has the mark
abbrev pub HasMark : Findings → ℕ → Mark → Type 0
HasMark r p m = slice_get (marks_of r.lines) p ≡ Some m

-- the report speaks of this design, with these expectations, and shows its journal or not
pub record HasFace (d : Netlist) (expected : List Bool) (shown : Bool) (r : Findings) : Type 0 where
  pub sizes : r.sizes ≡ sizes_of d
  pub lines : assumed_of r.lines ≡ expected
  pub shown_is : r.shown ≡ shown

-- one stimulus for each property that fails, in ascending order, each a local failure of its property
pub record HasFailures (t : Problem) (r : Findings) : Type 0 where
  pub one_each : map (λ (x : PropStim). x.prop) r.stimuli ≡ failing_from 0 (marks_of r.lines)
  pub local : All (λ (x : PropStim). IsLocalFailure t x.prop x.stim) r.stimuli

-- the clauses are inductive under the assumptions, so each row that is reachable under them meets the clauses
pub record HasInvariant (t : Problem) (r : Findings) : Type 0 where
  pub inductive : IsInductive t.circuit t.assumed r.clauses
  pub reached : (state : List Bool) → IsReachable t state
      → MeetsClauses t.circuit state r.clauses

-- the clauses cover each property that was proved
abbrev pub HasProofs : Problem → Findings → Type 0
HasProofs t r = (p : ℕ) → HasMark r p Proved → Covers t.circuit r.clauses p
