-- What clauses over latch variables say: a list that is inductive under assumptions, and the properties that it covers.
use Rattle.std.specs.Prelude.{◌≡◌, ℕ, ◌==◌, Bool, true, false, if◌then◌else◌, List, [], ◌∷◌}
use Rattle.ja_base.specs.Literals.{bit, variable, with_sign, AllSatisfiedBy}
use Rattle.ja_base.specs.Circuit.{Circuit, Latch}
use Rattle.ja_base.specs.Valuation.{IsValuation, next_state, IsGood, MeetsConstraints, AssumptionsHold}
use Rattle.ja_base.specs.Runs.{IsInitial}

-- What a literal is where the latches have the bits of a row. A literal over no latch is false, with both signs, and so are the
-- constants: clauses over other variables say nothing of a latch row.
abbrev pub latch_value : List Latch → List Bool → ℕ → Bool
latch_value [] state l = false
latch_value (k ∷ ks) [] l = false
latch_value (k ∷ ks) (b ∷ state) l = if variable l == k.var then with_sign l b
    else latch_value ks state l

-- each clause has a literal that is 1 in this latch row
abbrev pub MeetsClauses : Circuit → List Bool → List (List ℕ) → Type 0
MeetsClauses c state clauses = AllSatisfiedBy (latch_value c.latches state) clauses

-- Each initial row meets the clauses; and where a row meets them, each step under the constraints that breaks no property of
-- the set leads to a row that meets them.
pub record IsInductive (c : Circuit) (set : List Bool) (clauses : List (List ℕ)) : Type 0 where
  pub starts : (state : List Bool) → IsInitial c state → MeetsClauses c state clauses
  pub steps : (state input values : List Bool) → IsValuation c state input values
      → MeetsClauses c state clauses
      → MeetsConstraints c values → AssumptionsHold c set values
      → MeetsClauses c (next_state c values) clauses

-- In each row that meets the clauses, no input row that satisfies the constraints breaks the property. Nothing is assumed.
abbrev pub Covers : Circuit → List (List ℕ) → ℕ → Type 0
Covers c clauses p = (state input values : List Bool) → IsValuation c state input values
    → MeetsClauses c state clauses
    → MeetsConstraints c values → IsGood c p values

-- the clauses cover each property of the set
abbrev pub CoversAll : Circuit → List Bool → List (List ℕ) → Type 0
CoversAll c set clauses = (p : ℕ) → bit set p ≡ true → Covers c clauses p
