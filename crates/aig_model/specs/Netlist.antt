-- What contracts see of a `Design`, the circuit that it is, and when it is well formed.
use Rattle.std.specs.Prelude.{◌≡◌, ◌≢◌, ℕ, ◌+◌, ◌*◌, ◌%◌, ◌<◌, ◌≤◌, ◌^◌, ◌==◌, Bool, true, false, Option, Some, None, List, ◌∷◌, ◌++◌, length, map, slice_get, slice_index}
use Rattle.std.specs.List.{list_any}
use Rattle.std.specs.FinMap as finite_map
use Rattle.ja_base.specs.Literals.{variable}
use Rattle.ja_base.specs.Circuit as plain
use Rattle.aig_model.specs.declared.netlist.Reset.{Reset}
use Rattle.aig_model.specs.declared.netlist.Reset.TheVariants.{Zero, One, Free}
use Rattle.aig_model.specs.declared.netlist.Latch.{Latch}
use Rattle.aig_model.specs.declared.netlist.AndGate.{AndGate}

-- The lists of a design. The gates stand in an order of the code's own.
pub record Netlist : Type 0 where
  pub vars : ℕ
  pub inputs : List ℕ
  pub latches : List Latch
  pub gates : List AndGate
  pub bads : List ℕ
  pub constraints : List ℕ

-- the first state that a reset gives, if it gives one
abbrev pub reset_bit : Reset → Option Bool
reset_bit Zero = Some false
reset_bit One = Some true
reset_bit Free = None

abbrev pub latch_of : Latch → plain.Latch
latch_of k = record { var = variable k.lit; next = k.next; reset = reset_bit k.reset }

-- a gate's variable, and its right sides
abbrev pub entry_of : AndGate → ℕ × (ℕ × ℕ)
entry_of g = (variable g.lhs, (g.rhs0, g.rhs1))

-- the circuit, which has no order of its gates
abbrev pub circuit : Netlist → plain.Circuit
circuit n = record {
  vars = n.vars;
  inputs = map variable n.inputs;
  latches = map latch_of n.latches;
  gates = finite_map.from_entries (map entry_of n.gates);
  bads = n.bads;
  constraints = n.constraints;
}

-- the variable of a gate
abbrev pub gate_var : AndGate → ℕ
gate_var g = variable g.lhs

-- the variables of inputs, latches and gates, one for each
abbrev pub definitions : Netlist → List ℕ
definitions n = map variable n.inputs ++ map (λ (k : Latch). variable k.lit) n.latches
    ++ map gate_var n.gates

-- a literal that may be defined: not negated, a variable from 1 to M
pub record IsNew (vars l : ℕ) : Type 0 where
  pub even : l % 2 ≡ 0
  pub above : 2 ≤ l
  pub within : l ≤ 2 * vars

-- a literal that may be used: in range, and its variable is the constant or is one of these
pub record IsKnown (vars : ℕ) (defined : List ℕ) (l : ℕ) : Type 0 where
  pub within : l ≤ 2 * vars + 1
  pub defined_is : list_any (λ u. u == variable l) (0 ∷ defined) ≡ true

-- no two places of the list have the same number
abbrev pub AreApart : List ℕ → Type 0
AreApart xs = (i j : ℕ) → i < j → j < length xs → slice_index xs i ≢ slice_index xs j

-- a literal's variable is that of no gate from this place on
abbrev pub IsBefore : List AndGate → ℕ → ℕ → Type 0
IsBefore gates at l = (j : ℕ) (later : AndGate) → at ≤ j → slice_get gates j ≡ Some later
    → variable l ≢ gate_var later

pub record IsSoundLatch (n : Netlist) (latch : Latch) : Type 0 where
  pub lit : IsNew n.vars latch.lit
  pub next : IsKnown n.vars (definitions n) latch.next

-- the gate at this place
pub record IsSoundGate (n : Netlist) (at : ℕ) (gate : AndGate) : Type 0 where
  pub lhs : IsNew n.vars gate.lhs
  pub rhs0 : IsKnown n.vars (definitions n) gate.rhs0
  pub rhs1 : IsKnown n.vars (definitions n) gate.rhs1
  pub before0 : IsBefore n.gates at gate.rhs0
  pub before1 : IsBefore n.gates at gate.rhs1

-- Literals are in range, each variable is defined at most once, what is used is defined, and right sides come first.
pub record IsSound (n : Netlist) : Type 0 where
  pub small : n.vars < 2 ^ 31
  pub inputs : (k l : ℕ) → slice_get n.inputs k ≡ Some l → IsNew n.vars l
  pub latches : (k : ℕ) (latch : Latch) → slice_get n.latches k ≡ Some latch → IsSoundLatch n latch
  pub gates : (k : ℕ) (gate : AndGate) → slice_get n.gates k ≡ Some gate → IsSoundGate n k gate
  pub bads : (k l : ℕ) → slice_get n.bads k ≡ Some l → IsKnown n.vars (definitions n) l
  pub constraints : (k l : ℕ) → slice_get n.constraints k ≡ Some l
      → IsKnown n.vars (definitions n) l
  pub once : AreApart (definitions n)
