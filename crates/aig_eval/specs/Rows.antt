-- What is known of a row of values while a step is worked out.
use Rattle.std.specs.Prelude.{◌≡◌, ◌≢◌, ℕ, ◌+◌, ◌<◌, ◌&&◌, Bool, false, Some, List, length, map, slice_get, slice_index}
use Rattle.ja_base.specs.Literals.{bit, value, variable}
use Rattle.ja_base.specs.Circuit.{Circuit, is_defined}
use Rattle.aig_model.specs.declared.netlist.Latch.{Latch}
use Rattle.aig_model.specs.declared.netlist.AndGate.{AndGate}
use Rattle.aig_model.specs.Netlist.{Netlist, gate_var}

-- the inputs' variables, in order
abbrev pub input_vars : Netlist → List ℕ
input_vars n = map variable n.inputs

-- the variable of a latch
abbrev pub latch_var : Latch → ℕ
latch_var k = variable k.lit

-- the latches' variables, in order
abbrev pub latch_vars : Netlist → List ℕ
latch_vars n = map latch_var n.latches

-- the row has a bit for each variable, and what nothing defines is 0
pub record IsClear (c : Circuit) (values : List Bool) : Type 0 where
  pub width : length values ≡ c.vars + 1
  pub rest : (u : ℕ) → is_defined c u ≡ false → bit values u ≡ false

-- The new row has the first n of these bits at their variables. Every other bit is that of the old row.
pub record Puts (vars : List ℕ) (bits : List Bool) (n : ℕ) (old new : List Bool) : Type 0 where
  pub width : length new ≡ length old
  pub put : (k : ℕ) → k < n → bit new (slice_index vars k) ≡ bit bits k
  pub others : (u : ℕ) → ((k : ℕ) → k < n → slice_index vars k ≢ u) → bit new u ≡ bit old u

-- In the new row each of the first n gates is the "and" of its right sides. Every other bit is that of the old row.
pub record PutsGates (gates : List AndGate) (n : ℕ) (old new : List Bool) : Type 0 where
  pub width : length new ≡ length old
  pub put : (k : ℕ) (gate : AndGate) → k < n → slice_get gates k ≡ Some gate
      → bit new (gate_var gate) ≡ (value new gate.rhs0 && value new gate.rhs1)
  pub others : (u : ℕ)
      → ((k : ℕ) (gate : AndGate) → k < n → slice_get gates k ≡ Some gate → gate_var gate ≢ u)
      → bit new u ≡ bit old u
