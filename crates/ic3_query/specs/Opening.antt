-- What a solver is told of level 0.
use Rattle.std.specs.Prelude.{◌≡◌, ℕ, ◌<◌, Bool, true, Some, List, slice_get}
use Rattle.ja_base.specs.Literals.{bit, variable, value, AllSatisfiedBy}
use Rattle.aig_model.specs.declared.netlist.Latch.{Latch}
use Rattle.aig_model.specs.Netlist.{Netlist, reset_bit}
use Rattle.ic3_query.specs.Switches.{switch_var}

-- the latch has the bit of its reset, if it has one
abbrev pub HasReset : Latch → List Bool → Type 0
HasReset latch row = (b : Bool) → reset_bit latch.reset ≡ Some b → bit row (variable latch.lit) ≡ b

-- the same, where the switch of level 0 is on
abbrev pub IsReset : Netlist → Latch → List Bool → Type 0
IsReset n latch row = bit row (switch_var n 0) ≡ true → HasReset latch row

-- the new clauses say what the old ones say, and the fact of a row
pub record Says (P : List Bool → Type 0) (old new : List (List ℕ)) : Type 0 where
  pub forth : (row : List Bool) → AllSatisfiedBy (value row) old → P row
      → AllSatisfiedBy (value row) new
  pub back : (row : List Bool) → AllSatisfiedBy (value row) new → AllSatisfiedBy (value row) old
  pub gained : (row : List Bool) → AllSatisfiedBy (value row) new → P row

-- the first latches, so many, have their resets
abbrev pub AreReset : Netlist → ℕ → List Bool → Type 0
AreReset n number row = (k : ℕ) (latch : Latch) → k < number → slice_get n.latches k ≡ Some latch
    → IsReset n latch row
