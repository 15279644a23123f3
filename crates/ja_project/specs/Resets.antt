-- What is kept of a design to look at clauses: the reset of each latch, by its variable.
use Rattle.std.specs.Prelude.{◌≡◌, ℕ, ◌+◌, ◌==◌, if◌then◌else◌, Option, Some, None, List, [], ◌∷◌, length, slice_index_or}
use Rattle.ja_base.specs.Literals.{variable}
use Rattle.aig_model.specs.declared.netlist.Reset.{Reset}
use Rattle.aig_model.specs.declared.netlist.Latch.{Latch}
use Rattle.aig_model.specs.Netlist.{Netlist, IsSound}

-- the reset of the first of these latches that has this variable, if one has
abbrev pub reset_of : List Latch → ℕ → Option Reset
reset_of [] u = None
reset_of (k ∷ ks) u = if u == variable k.lit then Some k.reset else reset_of ks u

-- at each variable what these latches say of it
pub record HasResets (latches : List Latch) (vars : ℕ) (resets : List (Option Reset)) : Type 0 where
  pub width : length resets ≡ vars + 1
  pub each : (u : ℕ) → slice_index_or resets u None ≡ reset_of latches u

-- the table of a sound design
pub record IsResetTable (n : Netlist) (resets : List (Option Reset)) : Type 0 where
  pub sound : IsSound n
  pub has : HasResets n.latches n.vars resets
