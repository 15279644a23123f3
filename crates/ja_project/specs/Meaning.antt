-- What the clauses of a design say of a row with a bit for each variable.
use Rattle.std.specs.Prelude.{◌≡◌, ℕ, ◌+◌, ◌↔◌, Bool, true, List, length, All}
use Rattle.ja_base.specs.Literals.{value, AllSatisfiedBy}
use Rattle.ja_base.specs.Valuation.{IsValuation, MeetsConstraints, AssumptionsHold}
use Rattle.aig_model.specs.Netlist.{Netlist, circuit}
use Rattle.aig_model.specs.Task.{VerificationTask}

-- the row is the valuation of some latch row and input row, and each constraint is 1
abbrev pub IsLegalStep : Netlist → List Bool → Type 0
IsLegalStep n row = (state : List Bool) × (input : List Bool)
    × IsValuation (circuit n) state input row × MeetsConstraints (circuit n) row

-- a row with a bit for each variable meets the clauses exactly where it is a step under the constraints
abbrev pub CodesSteps : Netlist → List (List ℕ) → Type 0
CodesSteps n clauses = (row : List Bool) → length row ≡ n.vars + 1
    → AllSatisfiedBy (value row) clauses ↔ IsLegalStep n row

-- the literals are 1 exactly where no property that is expected to hold is broken
abbrev pub CodesAssumptions : VerificationTask → List ℕ → Type 0
CodesAssumptions t lits = (row : List Bool) → All (λ l. value row l ≡ true) lits
    ↔ AssumptionsHold (circuit t.design) t.expected row
