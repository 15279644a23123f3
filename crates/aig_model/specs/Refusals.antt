-- When lists of literals make no design, and which refusal that is: the first of these rules that is broken, with the least
-- variable that breaks it.
use Rattle.std.specs.Prelude.{◌≡◌, ℕ, ◌+◌, ◌*◌, ◌<◌, ◌≤◌, ◌^◌, ◌==◌, ◌⊎◌, ⊤, false, Some, List, [], ◌∷◌, ◌++◌, length, map, slice_get, slice_index, Contains}
use Rattle.std.specs.List.{list_any}
use Rattle.ja_base.specs.Literals.{variable}
use Rattle.ja_base.specs.Replay.{IsLeast}
use Rattle.aig_model.specs.declared.netlist.Latch.{Latch}
use Rattle.aig_model.specs.declared.netlist.AndGate.{AndGate}
use Rattle.aig_model.specs.declared.netlist.Parts.{Parts}
use Rattle.aig_model.specs.declared.build.BuildRefusal.{BuildRefusal}
use Rattle.aig_model.specs.declared.build.BuildRefusal.TheVariants.{Twice, Undefined, Cycle}
use Rattle.aig_model.specs.Netlist.{Netlist, IsNew, gate_var, definitions}

-- the lists but the outputs, with the gates in the order of the file
abbrev pub netlist_of : Parts → Netlist
netlist_of p = record {
  vars = p.vars;
  inputs = p.inputs;
  latches = p.latches;
  gates = p.gates;
  bads = p.bads;
  constraints = p.constraints;
}

-- the lists with their gates in another order
abbrev pub with_gates : Netlist → List AndGate → Netlist
with_gates n gates = record n { gates = gates }

-- every literal that is used
abbrev pub uses : Parts → List ℕ
uses p = map (λ (k : Latch). k.next) p.latches ++ p.outputs ++ p.bads ++ p.constraints
    ++ map (λ (g : AndGate). g.rhs0) p.gates ++ map (λ (g : AndGate). g.rhs1) p.gates

-- what is defined is not negated and has a variable from 1 to M; what is used has a variable up to M
pub record AreInRange (p : Parts) : Type 0 where
  pub small : p.vars < 2 ^ 31
  pub inputs : (k l : ℕ) → slice_get p.inputs k ≡ Some l → IsNew p.vars l
  pub latches : (k : ℕ) (latch : Latch) → slice_get p.latches k ≡ Some latch
      → IsNew p.vars latch.lit
  pub gates : (k : ℕ) (gate : AndGate) → slice_get p.gates k ≡ Some gate → IsNew p.vars gate.lhs
  pub used : (k l : ℕ) → slice_get (uses p) k ≡ Some l → l ≤ 2 * p.vars + 1

-- two places define the variable
pub record IsDefinedTwice (p : Parts) (v : ℕ) : Type 0 where
  pub one : ℕ
  pub other : ℕ
  pub apart : one < other
  pub within : other < length (definitions (netlist_of p))
  pub one_is : slice_index (definitions (netlist_of p)) one ≡ v
  pub other_is : slice_index (definitions (netlist_of p)) other ≡ v

-- a literal over the variable is used, it is not the constant, and nothing defines it
pub record IsUndefined (p : Parts) (v : ℕ) : Type 0 where
  pub used : Contains (map variable (uses p)) v
  pub above : 0 < v
  pub undefined : list_any (λ u. u == v) (definitions (netlist_of p)) ≡ false

-- a gate of the variable u has a right side over the variable w
pub record Leads (gates : List AndGate) (u w : ℕ) : Type 0 where
  pub at : ℕ
  pub gate : AndGate
  pub is : slice_get gates at ≡ Some gate
  pub from : gate_var gate ≡ u
  pub to : (variable gate.rhs0 ≡ w) ⊎ (variable gate.rhs1 ≡ w)

-- each variable of the list leads to the one behind it
abbrev pub IsPath : List AndGate → List ℕ → Type 0
IsPath gates [] = ⊤
IsPath gates (u ∷ []) = ⊤
IsPath gates (u ∷ w ∷ path) = Leads gates u w × IsPath gates (w ∷ path)

-- a path of gates from the variable comes twice to one place: from there it goes round a cycle
pub record ReachesCycle (gates : List AndGate) (v : ℕ) : Type 0 where
  pub path : List ℕ
  pub is_path : IsPath gates (v ∷ path)
  pub one : ℕ
  pub other : ℕ
  pub apart : one < other
  pub within : other < length (v ∷ path)
  pub meets : slice_index (v ∷ path) one ≡ slice_index (v ∷ path) other

-- no variable is defined twice
abbrev pub AreOnce : Parts → Type 0
AreOnce p = (v : ℕ) → IsDefinedTwice p v → ⊥

-- each variable that is used is defined
abbrev pub AreDefined : Parts → Type 0
AreDefined p = (v : ℕ) → IsUndefined p v → ⊥

-- no rule is broken
pub record MakesDesign (p : Parts) : Type 0 where
  pub once : AreOnce p
  pub defined : AreDefined p
  pub acyclic : (v : ℕ) → ReachesCycle p.gates v → ⊥

-- the refusal is that of the first rule that is broken, with its least variable
abbrev pub IsRefusal : Parts → BuildRefusal → Type 0
IsRefusal p (Twice v) = IsLeast (IsDefinedTwice p) v
IsRefusal p (Undefined v) = AreOnce p × IsLeast (IsUndefined p) v
IsRefusal p (Cycle v) = AreOnce p × AreDefined p × IsLeast (ReachesCycle p.gates) v
