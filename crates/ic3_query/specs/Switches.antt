-- Each level has a variable of the solver, its switch: with the switches from a level on, the clauses from that level on count.
use Rattle.std.specs.Prelude.{◌≡◌, ℕ, ◌+◌, ◌≤◌, nat_le, Bool, true, false, List}
use Rattle.ja_base.specs.Literals.{bit, literal_of}
use Rattle.aig_model.specs.Netlist.{Netlist}

-- the switch of a level; the variables below those of the switches are the design's
abbrev pub switch_var : Netlist → ℕ → ℕ
switch_var n j = n.vars + 1 + j

-- the switch of the level is on
abbrev pub switch : Netlist → ℕ → ℕ
switch n j = literal_of (switch_var n j) false

-- the switch of the level is off
abbrev pub off : Netlist → ℕ → ℕ
off n j = literal_of (switch_var n j) true

-- the switches from level k to the top are on
abbrev pub IsOn : Netlist → ℕ → ℕ → List Bool → Type 0
IsOn n top k row = (j : ℕ) → k ≤ j → j ≤ top → bit row (switch_var n j) ≡ true

-- of the switches up to the top just those from level k on are on
abbrev pub IsExactly : Netlist → ℕ → ℕ → List Bool → Type 0
IsExactly n top k row = (j : ℕ) → j ≤ top → bit row (switch_var n j) ≡ nat_le k j
