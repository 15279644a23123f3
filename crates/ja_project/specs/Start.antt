-- Which clauses are closed at the start: no initial row falsifies them.
use Rattle.std.specs.Prelude.{◌≡◌, ℕ, ◌*◌, ◌==◌, ◌&&◌, ◌↔◌, Bool, false, not, Option, Some, None, List, map}
use Rattle.std.specs.Option.{unwrap_or}
use Rattle.std.specs.List.{list_any}
use Rattle.ja_base.specs.Literals.{variable, with_sign, SatisfiedBy}
use Rattle.ja_base.specs.Circuit.{Circuit, Latch}
use Rattle.ja_base.specs.Clauses.{has_literal}
use Rattle.ja_base.specs.Runs.{IsInitial}
use Rattle.ja_base.specs.Invariants.{latch_value}
use Rattle.aig_model.specs.Netlist.{Netlist, IsSound, circuit}
use Rattle.ja_project.specs.Latches.{is_foreign}

-- the literal is 1 under a reset; a latch that is free at the start has none
abbrev pub reset_sets : Option Bool → ℕ → Bool
reset_sets None l = false
reset_sets (Some b) l = with_sign l b

-- the literal is over a latch, and is 1 under its reset
abbrev pub agrees_with_reset : Circuit → ℕ → Bool
agrees_with_reset c l =
    list_any (λ (k : Latch). variable l == k.var && reset_sets k.reset l) c.latches

-- some literal of the clause agrees with a reset
abbrev pub starts : Circuit → List ℕ → Bool
starts c clause = list_any (agrees_with_reset c) clause

-- The first bit of a latch in a row that falsifies the clause: that of its reset, or else the one under which a literal of the
-- clause over it is 0.
abbrev pub falsifying_bit : List ℕ → Latch → Bool
falsifying_bit clause k = unwrap_or k.reset (not (has_literal clause (2 * k.var)))

-- an initial row, in which each literal of the clause is 0 that agrees with no reset
abbrev pub falsifying_row : Circuit → List ℕ → List Bool
falsifying_row c clause = map (falsifying_bit clause) c.latches

-- some initial row falsifies the clause
abbrev pub IsFalsifiedAtStart : Circuit → List ℕ → Type 0
IsFalsifiedAtStart c clause = (state : List Bool) × IsInitial c state
    × (SatisfiedBy (latch_value c.latches state) clause → ⊥)

-- no literal of a clause agrees with a reset exactly where some initial row falsifies it
abbrev pub StartsExactly : Type 0
StartsExactly = (n : Netlist) (clause : List ℕ) → IsSound n → is_foreign (circuit n) clause ≡ false
    → (starts (circuit n) clause ≡ false) ↔ IsFalsifiedAtStart (circuit n) clause
