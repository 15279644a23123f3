-- Statements over the definitions alone.
use Rattle.std.specs.Prelude.{◌≡◌, ℕ, ◌+◌, Bool, true, false, List, take}
use Rattle.ja_base.specs.Literals.{bit, value, AllSatisfiedBy}
use Rattle.ja_base.specs.Circuit.{Circuit}
use Rattle.ja_base.specs.Valuation.{latch_row, next_state}
use Rattle.ja_base.specs.Invariants.{latch_value}
use Rattle.aig_model.specs.Netlist.{Netlist, IsSound, circuit}
use Rattle.ja_project.specs.CodedClauses.{coded_clauses, next_literal}
use Rattle.ja_project.specs.Latches.{is_over_latch}

-- what a literal over a latch is in a row of values, it is in the latch row of that row
abbrev pub LatchValuesAreValues : Type 0
LatchValuesAreValues = (c : Circuit) (row : List Bool) (l : ℕ) → is_over_latch c l ≡ true
    → latch_value c.latches (latch_row c row) l ≡ value row l

-- the next literal of a literal is what the literal itself is in the next latch row
abbrev pub NextValuesAreValues : Type 0
NextValuesAreValues = (n : Netlist) (row : List Bool) (l : ℕ) → bit row 0 ≡ false
    → value row (next_literal n.latches l)
    ≡ latch_value (circuit n).latches (next_state (circuit n) row) l

-- a row with further bits, cut after those of the design's variables, meets the clauses of the design where the whole row does
abbrev pub CutRowsMeet : Type 0
CutRowsMeet = (n : Netlist) (row : List Bool) → IsSound n
    → AllSatisfiedBy (value row) (coded_clauses n)
    → AllSatisfiedBy (value (take (n.vars + 1) row)) (coded_clauses n)
