-- Literals in range, list by list.
use Rattle.std.specs.Prelude.{◌≡◌, ℕ, ◌+◌, ◌*◌, ◌≤◌, Some, List, slice_get}
use Rattle.aig_model.specs.Netlist.{IsNew}

-- each literal may be defined
abbrev pub AreNew : ℕ → List ℕ → Type 0
AreNew vars lits = (at l : ℕ) → slice_get lits at ≡ Some l → IsNew vars l

-- each literal may be used
abbrev pub AreUsable : ℕ → List ℕ → Type 0
AreUsable vars lits = (at l : ℕ) → slice_get lits at ≡ Some l → l ≤ 2 * vars + 1
