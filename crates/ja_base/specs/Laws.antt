-- Statements over the definitions alone. Each is proved where it is the contract of a public function with an empty body, in
-- the crate that first needs it.
use Rattle.std.specs.Prelude.{◌≡◌, ℕ, ◌+◌, Bool, List, [], ◌++◌, length, take}
use Rattle.ja_base.specs.Circuit.{Circuit, Problem, IsAcyclic}
use Rattle.ja_base.specs.Valuation.{IsValuation}
use Rattle.ja_base.specs.Runs.{Trace, IsLocalFailure, FailsLocally, IsFirstBroken, BreaksAssumed, IsReachable}
use Rattle.ja_base.specs.Invariants.{MeetsClauses, IsInductive, Covers, CoversAll}

-- an acyclic circuit has at most one valuation for a latch row and an input row
abbrev pub ValuationsAgree : Type 0
ValuationsAgree = (c : Circuit) (state input v w : List Bool) → IsAcyclic c
    → IsValuation c state input v
    → IsValuation c state input w → v ≡ w

-- each reachable row meets a list that is inductive under the assumptions
abbrev pub ReachableStatesMeet : Type 0
ReachableStatesMeet = (t : Problem) (clauses : List (List ℕ)) (state : List Bool)
    → IsInductive t.circuit t.assumed clauses
    → IsReachable t state → MeetsClauses t.circuit state clauses

-- a property that a list covers, which is inductive under the assumptions, does not fail locally
abbrev pub CoveredNeverFails : Type 0
CoveredNeverFails = (t : Problem) (clauses : List (List ℕ)) (p : ℕ)
    → IsInductive t.circuit t.assumed clauses
    → Covers t.circuit clauses p → FailsLocally t p → ⊥

-- two lists that are inductive under one set join into one
abbrev pub JoinIsInductive : Type 0
JoinIsInductive = (c : Circuit) (set : List Bool) (a b : List (List ℕ)) → IsInductive c set a
    → IsInductive c set b
    → IsInductive c set (a ++ b)

-- a list that is inductive under a set and covers all of it is inductive under no assumption
abbrev pub AssumptionsDischarge : Type 0
AssumptionsDischarge = (c : Circuit) (set : List Bool) (clauses : List (List ℕ))
    → IsInductive c set clauses
    → CoversAll c set clauses → IsInductive c [] clauses

-- where a list that is inductive under a set covers all of it, no legal stimulus breaks a property of the set
abbrev pub CoveredNeverBreaks : Type 0
CoveredNeverBreaks = (c : Circuit) (set : List Bool) (clauses : List (List ℕ)) (m : Trace)
    → IsInductive c set clauses
    → CoversAll c set clauses → BreaksAssumed c set m → ⊥

-- the stimulus with its first n input rows
abbrev pub cut : Trace → ℕ → Trace
cut m n = record { first = m.first; inputs = take n m.inputs }

-- each property that is broken first fails locally: the stimulus is cut after that step
abbrev pub FirstBrokenFailsLocally : Type 0
FirstBrokenFailsLocally = (t : Problem) (m : Trace) (p : ℕ) (b : IsFirstBroken t m p)
    → IsLocalFailure t p (cut m (length b.before + 1))

-- a legal stimulus that breaks an assumed property breaks one first
abbrev pub BreaksHaveFirst : Type 0
BreaksHaveFirst = (t : Problem) (m : Trace) → BreaksAssumed t.circuit t.assumed m
    → (p : ℕ) × IsFirstBroken t m p
