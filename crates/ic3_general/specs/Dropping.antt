-- What holds while literals of a clause are dropped one by one.
use Rattle.std.specs.Prelude.{◌≡◌, ◌≢◌, ℕ, ◌<◌, ◌&&◌, ◌||◌, Bool, true, false, Some, List, [], ◌∷◌, ◌++◌, length, slice_get, Any, Contains, ⊤}
use Rattle.ja_base.specs.Literals.{bit, variable, negated, value}
use Rattle.ja_base.specs.Circuit.{Circuit}
use Rattle.ja_base.specs.Clauses.{has_literal}
use Rattle.ja_base.specs.Valuation.{IsValuation, input_row, latch_row}
use Rattle.aig_model.specs.declared.netlist.AndGate.{AndGate}
use Rattle.aig_model.specs.Netlist.{Netlist, gate_var}
use Rattle.ja_project.specs.Latches.{is_over_latch}
use Rattle.ic3_general.specs.Cubes.{unmet_literals}
use Rattle.ic3_general.specs.Lifting.{HasLeaves, IsSureRow, MakesSure}

-- In the new row each of the first n gates, and its negation, has its bit by the three-valued rule. Every other bit is that of
-- the old row.
pub record PutsSure (gates : List AndGate) (n : ℕ) (old new : List Bool) : Type 0 where
  pub width : length new ≡ length old
  pub ands : (k : ℕ) (gate : AndGate) → k < n → slice_get gates k ≡ Some gate
      → bit new gate.lhs ≡ (bit new gate.rhs0 && bit new gate.rhs1)
  pub ors : (k : ℕ) (gate : AndGate) → k < n → slice_get gates k ≡ Some gate
      → bit new (negated gate.lhs)
      ≡ (bit new (negated gate.rhs0) || bit new (negated gate.rhs1))
  pub others : (l : ℕ)
      → ((k : ℕ) (gate : AndGate) → k < n → slice_get gates k ≡ Some gate
      → gate_var gate ≢ variable l)
      → bit new l ≡ bit old l

-- each literal of the clause is one that is 0 in the row, over a latch
abbrev pub IsAmongUnmet : Netlist → List Bool → List ℕ → Type 0
IsAmongUnmet n row clause = (l : ℕ) → Contains clause l → Contains (unmet_literals n row) l

-- the clause has the negation of each literal over a latch that is 1 in the row
abbrev pub HasUnmet : Circuit → List Bool → List ℕ → Type 0
HasUnmet c row clause = (l : ℕ) → is_over_latch c l ≡ true → value row l ≡ true
    → Contains clause (negated l)

-- the literals of the part are some of the whole's, and the literal is none of them
pub record IsPartWithout (l : ℕ) (whole clause : List ℕ) : Type 0 where
  pub among : (m : ℕ) → Contains clause m → Contains whole m
  pub lacks : Contains clause l → ⊥

-- no part of the clause without this literal makes all target literals surely 1
abbrev pub IsNeeded : Circuit → List Bool → List ℕ → List ℕ → ℕ → Type 0
IsNeeded c values target clause l = (part : List ℕ) (sure : List Bool) → IsPartWithout l clause part
    → IsSureRow c values part sure → Any (λ t. bit sure t ≡ false) target

-- no literal stands twice
abbrev pub HasNoneTwice : List ℕ → Type 0
HasNoneTwice [] = ⊤
HasNoneTwice (l ∷ ls) = (has_literal ls l ≡ false) × HasNoneTwice ls

-- Of the first clause's literals some were kept, and the rest is still to be tried. What is left of them makes the target
-- literals 1, and each that was kept is needed.
pub record IsLifting (c : Circuit) (values : List Bool) (target first kept rest : List ℕ)
    (sure : List Bool) : Type 0 where
  pub leaves : HasLeaves c values (kept ++ rest) sure
  pub makes : MakesSure c values target (kept ++ rest)
  pub needed : (l : ℕ) → Contains kept l → IsNeeded c values target (kept ++ rest) l
  pub among : (l : ℕ) → Contains (kept ++ rest) l → Contains first l
  pub once : HasNoneTwice (kept ++ rest)

-- the literal stands once in a clause whose literals have their bits, and is over a latch
pub record Stands (c : Circuit) (values : List Bool) (before after : List ℕ) (l : ℕ)
    (sure : List Bool) : Type 0 where
  pub step : IsValuation c (latch_row c values) (input_row c values) values
  pub over : is_over_latch c l ≡ true
  pub once : has_literal (before ++ after) l ≡ false
  pub leaves : HasLeaves c values (before ++ l ∷ after) sure

-- wherever the literal stood it was dropped, and what is left makes the target literals 1
abbrev pub IsDropped : Circuit → List ℕ → ℕ → List Bool → List Bool → Type 0
IsDropped c target l old new = (values : List Bool) (before after : List ℕ)
    → Stands c values before after l old
    → HasLeaves c values (before ++ after) new × MakesSure c values target (before ++ after)

-- wherever the literal stood it was kept, and is needed
abbrev pub IsKept : Circuit → List ℕ → ℕ → List Bool → List Bool → Type 0
IsKept c target l old new = (values : List Bool) (before after : List ℕ)
    → Stands c values before after l old
    → HasLeaves c values (before ++ l ∷ after) new
    × IsNeeded c values target (before ++ l ∷ after) l
