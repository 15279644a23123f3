-- Clauses over latches.
use Rattle.std.specs.Prelude.{ℕ, ◌==◌, ◌||◌, Bool, not, List}
use Rattle.std.specs.List.{list_any, list_all}
use Rattle.ja_base.specs.Literals.{variable}
use Rattle.ja_base.specs.Circuit.{Circuit, Latch}
use Rattle.refute_check.specs.Refuted.{has_both_signs}

-- the literal is over a latch
abbrev pub is_over_latch : Circuit → ℕ → Bool
is_over_latch c l = list_any (λ (k : Latch). variable l == k.var) c.latches

-- a clause that may stand in no closed list: some variable has both signs, or is no latch's
abbrev pub is_foreign : Circuit → List ℕ → Bool
is_foreign c clause = has_both_signs clause || not (list_all (is_over_latch c) clause)
