-- Which variables are defined, by lists of literals so far, and the least one that breaks a rule.
use Rattle.std.specs.Prelude.{◌≡◌, ℕ, ◌+◌, ◌<◌, ◌≤◌, ◌==◌, Bool, false, Option, Some, None, if◌then◌else◌, nat_lt, List, [], ◌∷◌, ◌++◌, length, map, slice_get, count_by}
use Rattle.std.specs.List.{list_any, flat_map}
use Rattle.ja_base.specs.Literals.{bit, variable}
use Rattle.aig_model.specs.declared.netlist.Latch.{Latch}
use Rattle.aig_model.specs.declared.netlist.AndGate.{AndGate}
use Rattle.aig_model.specs.declared.netlist.Parts.{Parts}
use Rattle.aig_model.specs.declared.definitions.Defined.{Defined}
use Rattle.aig_model.specs.Netlist.{definitions}
use Rattle.aig_model.specs.Refusals.{netlist_of, IsDefinedTwice}
use Rattle.aig_model.specs.Least.{IsLeastOf}

-- the lesser of the two
abbrev pub least_with : Option ℕ → ℕ → ℕ
least_with None v = v
least_with (Some u) v = if nat_lt u v then u else v

-- the variable of each literal has a bit in a row of n
abbrev pub AreWithin : ℕ → List ℕ → Type 0
AreWithin n lits = (at l : ℕ) → slice_get lits at ≡ Some l → variable l < n

-- how often the variable stands in the list
abbrev pub times : List ℕ → ℕ → ℕ
times vars v = count_by (λ u. u == v) vars

-- the variables of a list are marked, and the least that stands there twice is known
pub record Marks (vars : List ℕ) (defined : Defined) : Type 0 where
  pub marks : (v : ℕ) → bit defined.row v ≡ list_any (λ u. u == v) vars
  pub twice : IsLeastOf (λ v. 2 ≤ times vars v) defined.twice

-- the variables were added
pub record Adds (old new : Defined) (more : List ℕ) : Type 0 where
  pub width : length new.row ≡ length old.row
  pub marks : (vars : List ℕ) → Marks vars old → Marks (vars ++ more) new

-- the variables that the lists define, and the least that they define twice
pub record IsTableOf (p : Parts) (defined : Defined) : Type 0 where
  pub width : length defined.row ≡ p.vars + 1
  pub marks : (v : ℕ) → bit defined.row v ≡ list_any (λ u. u == v) (definitions (netlist_of p))
  pub twice : IsLeastOf (IsDefinedTwice p) defined.twice

-- a literal over the variable is in the list, it is not the constant, and it has no mark
pub record IsMissing (row : List Bool) (lits : List ℕ) (v : ℕ) : Type 0 where
  pub at : ℕ
  pub used : slice_get (map variable lits) at ≡ Some v
  pub above : 0 < v
  pub unmarked : bit row v ≡ false

-- the literals were looked at: the least variable that is missing among those before becomes that among all
abbrev pub Checks : List Bool → Option ℕ → Option ℕ → List ℕ → Type 0
Checks row old new more = (lits : List ℕ) → IsLeastOf (IsMissing row lits) old
    → IsLeastOf (IsMissing row (lits ++ more)) new

-- the right sides, gate by gate
abbrev pub rights : List AndGate → List ℕ
rights gates = flat_map (λ (g : AndGate). g.rhs0 ∷ g.rhs1 ∷ []) gates

abbrev pub nexts : List Latch → List ℕ
nexts latches = map (λ (k : Latch). k.next) latches
