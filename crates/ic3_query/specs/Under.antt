-- What a question assumes: switches, the assumptions of the task, and what is to hold one step later.
use Rattle.std.specs.Prelude.{ℕ, ◌+◌, ◌-◌, List, [], ◌∷◌, ◌++◌, map}
use Rattle.std.specs.List.{range_with_len}
use Rattle.ja_base.specs.Clauses.{IsSetOf}
use Rattle.ja_base.specs.Circuit.{bad_literal}
use Rattle.aig_model.specs.Netlist.{Netlist, circuit}
use Rattle.aig_model.specs.Task.{VerificationTask}
use Rattle.ja_project.specs.CodedClauses.{held_literals, negated_next}
use Rattle.ic3_query.specs.Switches.{switch, off}

-- the switches from level k to the top
abbrev pub switches : Netlist → ℕ → ℕ → List ℕ
switches n k top = map (switch n) (range_with_len k (top + 1 - k))

-- a step from the level that breaks no assumption leads out of the clause
abbrev pub step_literals : VerificationTask → ℕ → ℕ → List ℕ → List ℕ
step_literals t k top clause =
    switches t.design k top ++ held_literals t ++ negated_next t.design clause

-- a step from the level breaks the property; nothing else is assumed
abbrev pub bad_literals : VerificationTask → ℕ → ℕ → ℕ → List ℕ
bad_literals t k top p = switches t.design k top ++ bad_literal (circuit t.design) p ∷ []

-- the clause counts only where the switch of the level is on
abbrev pub IsGuarded : Netlist → ℕ → List ℕ → List ℕ → Type 0
IsGuarded n level clause guarded = IsSetOf (clause ++ off n level ∷ []) guarded
