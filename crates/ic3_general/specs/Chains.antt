-- Input rows that lead to a step which breaks a property.
use Rattle.std.specs.Prelude.{ℕ, Bool, List, [], ◌∷◌, ◌++◌, All}
use Rattle.ja_base.specs.Circuit.{Problem}
use Rattle.ja_base.specs.Runs.{IsRun}
use Rattle.ja_base.specs.Valuation.{IsBad, MeetsConstraints, AssumptionsHold}
use Rattle.ic3_general.specs.Cubes.{IsOutside}

-- From this latch row the input rows lead to a step that breaks the property. Each constraint is met at each step, and no assumed
-- property is broken before the last.
pub record Leads (t : Problem) (p : ℕ) (s : List Bool) (chain : List (List Bool)) : Type 0 where
  pub earlier : List (List Bool)
  pub last : List Bool
  pub runs : IsRun t.circuit s chain (earlier ++ last ∷ [])
  pub constrained : All (MeetsConstraints t.circuit) (earlier ++ last ∷ [])
  pub held : All (AssumptionsHold t.circuit t.assumed) earlier
  pub bad : IsBad t.circuit p last

-- the input rows lead there from each latch row of the cube that the clause excludes
abbrev pub AllLead : Problem → ℕ → List ℕ → List (List Bool) → Type 0
AllLead t p clause chain = (s : List Bool) → IsOutside t.circuit clause s → Leads t p s chain
