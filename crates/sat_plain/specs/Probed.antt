-- What a question without a log answers.
use Rattle.std.specs.Prelude.{◌≡◌, ℕ, ◌<◌, Bool, true, List, Option, Some, None, length, ⊤}
use Rattle.ja_base.specs.Literals.{bit}
use Rattle.ja_base.specs.Clauses.{is_part}
use Rattle.ja_base.specs.declared.meter.Meter.{Meter}
use Rattle.refute_check.specs.Refuted.{Satisfies, IsRefuted}
use Rattle.sat_plain.specs.Ticks.{IsGranted, IsRefused, SpendsAtLeast}
use Rattle.sat_plain.specs.declared.probe.Probed.{Probed}
use Rattle.sat_plain.specs.declared.probe.Probed.TheVariants.{Open, Closed, Spent, Stopped, Memory}

-- the core is a part of `under`, and no row meets the clauses and the core
pub record Closes (vars : ℕ) (clauses : List (List ℕ)) (under core : List ℕ) : Type 0 where
  pub part : is_part core under ≡ true
  pub refuted : IsRefuted vars clauses core

-- some row meets the clauses and `under`, and has the bits of this row, as far as both reach
pub record IsFront (vars : ℕ) (clauses : List (List ℕ)) (under : List ℕ)
    (row : List Bool) : Type 0 where
  pub whole : List Bool
  pub meets : Satisfies vars clauses under whole
  pub same : (u : ℕ) → u < length row → u < vars → bit row u ≡ bit whole u

-- nothing is said where the variables to be decided are given; else the row is the front of one that meets all
abbrev pub IsOpen : ℕ → List (List ℕ) → List ℕ → Option (List ℕ) → List Bool → Type 0
IsOpen vars clauses under (Some among) row = ⊤
IsOpen vars clauses under None row = IsFront vars clauses under row

-- what is found, or a core that is refuted; the other answers say nothing of the clauses
abbrev pub IsProbed : ℕ → List (List ℕ) → List ℕ → Option (List ℕ) → List Bool → Probed → Type 0
IsProbed vars clauses under among row Open = IsOpen vars clauses under among row
IsProbed vars clauses under among row (Closed core) = Closes vars clauses under core
IsProbed vars clauses under among row Spent = ⊤
IsProbed vars clauses under among row Stopped = ⊤
IsProbed vars clauses under among row Memory = ⊤

-- `Spent` is answered exactly where a tick was refused; else a unit was spent when the question began, but for want of memory
abbrev pub IsProbeTicked : Meter → Meter → Probed → Type 0
IsProbeTicked before now Open = IsGranted before now × SpendsAtLeast before now 1
IsProbeTicked before now (Closed core) = IsGranted before now × SpendsAtLeast before now 1
IsProbeTicked before now Spent = IsRefused before now
IsProbeTicked before now Stopped = IsGranted before now × SpendsAtLeast before now 1
IsProbeTicked before now Memory = now.refused ≡ before.refused

-- a fact, where the answer is `Stopped`
abbrev pub OnProbeStopped : Probed → Type 0 → Type 0
OnProbeStopped Open P = ⊤
OnProbeStopped (Closed core) P = ⊤
OnProbeStopped Spent P = ⊤
OnProbeStopped Stopped P = P
OnProbeStopped Memory P = ⊤
