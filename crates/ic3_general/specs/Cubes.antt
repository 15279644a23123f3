-- Cubes, kept as the clauses that exclude them.
use Rattle.std.specs.Prelude.{◌≡◌, ℕ, Bool, false, if◌then◌else◌, List, length, map}
use Rattle.std.specs.List.{list_any}
use Rattle.ja_base.specs.Literals.{bit, variable, negated}
use Rattle.ja_base.specs.Circuit.{Circuit}
use Rattle.ja_base.specs.Invariants.{latch_value}
use Rattle.aig_model.specs.declared.netlist.Latch.{Latch}
use Rattle.aig_model.specs.Netlist.{Netlist}

-- the literal over the latch that is 0 in a row with a bit for each variable
abbrev pub unmet_literal : List Bool → Latch → ℕ
unmet_literal row latch = if bit row (variable latch.lit) then negated latch.lit else latch.lit

-- these literals of all latches
abbrev pub unmet_literals : Netlist → List Bool → List ℕ
unmet_literals n row = map (unmet_literal row) n.latches

-- the latch row is in the cube that the clause excludes: each literal is 0 in it
pub record IsOutside (c : Circuit) (clause : List ℕ) (s : List Bool) : Type 0 where
  pub width : length s ≡ length c.latches
  pub unmet : list_any (latch_value c.latches s) clause ≡ false
