-- A file up to its gates, its lists against its header, and what may be wrong behind the gates.
use Rattle.std.specs.Prelude.{◌≡◌, ℕ, List, length}
use Rattle.aig_model.specs.declared.netlist.Parts.{Parts}
use Rattle.aiger_lines.specs.declared.sizes.Header.{Header}
use Rattle.aiger_lines.specs.declared.refusal.ReadRefusal.{ReadRefusal}
use Rattle.aiger_lines.specs.declared.refusal.ReadRefusal.TheVariants.{Symbol}
use Rattle.aiger_lines.specs.Tail.{HasBadLine}
use Rattle.aiger_lines.specs.Reading.{place}

-- the header counts the items of each section
pub record Counts (h : Header) (p : Parts) (bads : List ℕ) : Type 0 where
  pub vars : p.vars ≡ h.vars
  pub inputs : length p.inputs ≡ h.inputs
  pub latches : length p.latches ≡ h.latches
  pub outputs : length p.outputs ≡ h.outputs
  pub bad_lines : length bads ≡ h.bads
  pub constraints : length p.constraints ≡ h.constraints
  pub gates : length p.gates ≡ h.gates

-- a file up to its gates: its sizes and lists, and what follows them
pub record File : Type 0 where
  pub head : Header
  pub parts : Parts
  pub tail : List ℕ

-- behind the gates of a file of so many bytes stands a line that is not in form
abbrev pub IsTailRefusal : ℕ → File → ReadRefusal → Type 0
IsTailRefusal size f r = (rest : List ℕ) × HasBadLine f.head f.tail rest
    × (r ≡ Symbol (place size rest))
