-- What a turn of the search leaves, by its outcome.
use Rattle.std.specs.Prelude.{◌≡◌, ℕ, ◌+◌, true, Some, List, length, take, All, Contains, ⊤}
use Rattle.ja_base.specs.declared.meter.Meter.{Meter}
use Rattle.refute_check.specs.Laws.{AreAccepted, with_lines}
use Rattle.refute_check.specs.Refuted.{is_covered}
use Rattle.refute_check.specs.declared.lines.Refuted.{Refuted}
use Rattle.sat_plain.specs.Answer.{OnUnsat}
use Rattle.sat_plain.specs.declared.answer.SatAnswer.{SatAnswer}
use Rattle.sat_plain.specs.declared.answer.SatAnswer.TheVariants as answer
use Rattle.sat_plain.specs.declared.place.Place.{Place}
use Rattle.sat_plain.specs.declared.turn.Outcome.{Outcome}
use Rattle.sat_plain.specs.declared.turn.Outcome.TheVariants.{GoesOn, Meets, Refutes, Spent, Stopped, Memory}
use Rattle.sat_plain.specs.Trails.{lits_of}
use Rattle.sat_plain.specs.Ticks.{IsRefused, IsTicked, SpendsAtLeast}
use Rattle.sat_plain.specs.Payments.{Spends}
use Rattle.sat_plain.specs.Turns.{IsCore, IsModel, IsFurther}

-- the search has come further, or a row meets all, or the lowest places are refuted
abbrev pub IsTurned : ℕ → ℕ → List Place → List Place → List (List ℕ) → Outcome → Type 0
IsTurned vars assumed before after clauses GoesOn = IsFurther vars before after
IsTurned vars assumed before after clauses (Meets row) = IsModel vars clauses (lits_of after) row
IsTurned vars assumed before after clauses (Refutes core) =
    IsCore (take assumed (lits_of after)) clauses core
IsTurned vars assumed before after clauses Spent = ⊤
IsTurned vars assumed before after clauses Stopped = ⊤
IsTurned vars assumed before after clauses Memory = ⊤

-- a unit was spent for each line, of which there were n before and m now
abbrev pub SpendsFor : Meter → Meter → ℕ → ℕ → Type 0
SpendsFor before now n m = (k : ℕ) × (m ≡ n + k) × Spends before now k

-- a unit for each line, or the tick that was refused; want of memory may come behind a unit for which there is no line
abbrev pub IsTurnTicked : Meter → Meter → ℕ → ℕ → Outcome → Type 0
IsTurnTicked before now n m GoesOn = SpendsFor before now n m
IsTurnTicked before now n m (Meets row) = SpendsFor before now n m
IsTurnTicked before now n m (Refutes core) = SpendsFor before now n m
IsTurnTicked before now n m Spent = IsRefused before now
IsTurnTicked before now n m Stopped = Spends before now 1
IsTurnTicked before now n m Memory = now.refused ≡ before.refused

-- a fact, where the flag was found raised
abbrev pub OnTurnStopped : Outcome → Type 0 → Type 0
OnTurnStopped GoesOn P = ⊤
OnTurnStopped (Meets row) P = ⊤
OnTurnStopped (Refutes core) P = ⊤
OnTurnStopped Spent P = ⊤
OnTurnStopped Stopped P = P
OnTurnStopped Memory P = ⊤

-- the literals of the core are among these, and the lines show that no row meets them
pub record IsRefutation (vars : ℕ) (clauses : List (List ℕ)) (lits : List ℕ)
    (refuted : Refuted) : Type 0 where
  pub part : All (Contains lits) refuted.core
  pub accepted : AreAccepted vars clauses refuted.lines
  pub covered : is_covered (with_lines clauses refuted.lines) refuted.core ≡ true

-- the answer of a search under the literals of the lowest places
abbrev pub IsFound : ℕ → List (List ℕ) → List ℕ → SatAnswer → Type 0
IsFound vars clauses lits (answer.Sat row) = IsModel vars clauses lits row
IsFound vars clauses lits (answer.Unsat refuted) = IsRefutation vars clauses lits refuted
IsFound vars clauses lits answer.Spent = ⊤
IsFound vars clauses lits answer.Stopped = ⊤
IsFound vars clauses lits answer.Memory = ⊤

-- with one unit spent before the search, it is ticked as a query is, and by one unit more than it has lines
abbrev pub IsFoundTicked : Meter → Meter → SatAnswer → Type 0
IsFoundTicked before now found = (start : Meter) → (start.limit ≡ Some start.spent → ⊥)
    → Spends start before 1
    → IsTicked start now found
    × OnUnsat found (λ refuted. SpendsAtLeast start now (1 + length refuted.lines))
