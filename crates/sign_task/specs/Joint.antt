-- What a report says of all properties together: joined or not, and the debugging set.
use Rattle.std.specs.Prelude.{◌≡◌, ℕ, ◌⊎◌, ◌↔◌, true, [], All, Contains, IsTrue}
use Rattle.ja_base.specs.Literals.{bit}
use Rattle.ja_base.specs.Circuit.{Problem}
use Rattle.ja_base.specs.Runs.{Trace, FailsLocally, IsFirstBroken, BreaksAssumed}
use Rattle.ja_base.specs.Invariants.{CoversAll, IsInductive}
use Rattle.store_core.specs.declared.mark.Mark.TheVariants.{Proved}
use Rattle.debug_set.specs.Verdicts.{IsDebuggingSet, IsJoined, IsUnknown}
use Rattle.report.specs.Findings.{Findings, marks_of}
use Rattle.sign_task.specs.Sections.{HasMark}

-- the clauses need no assumption, cover each assumed property, and so none is ever broken
pub record IsDischarged (t : Problem) (r : Findings) : Type 0 where
  pub inductive : IsInductive t.circuit [] r.clauses
  pub covers : CoversAll t.circuit t.assumed r.clauses
  pub never : (m : Trace) → BreaksAssumed t.circuit t.assumed m → ⊥

-- `joined` stands exactly where each assumed property was proved, and then the clauses need no assumption
pub record JoinsRightly (t : Problem) (r : Findings) : Type 0 where
  pub exact : IsTrue r.joined ↔ IsJoined t.assumed (marks_of r.lines)
  pub discharged : IsTrue r.joined → IsDischarged t r

-- no property is left unknown
abbrev pub AllKnown : Findings → Type 0
AllKnown r = (p : ℕ) → IsUnknown (marks_of r.lines) p → ⊥

-- The set is the debugging set of the marks. Each member fails locally, and no property that was proved does; where none is
-- unknown, the members are exactly the assumed properties that fail locally. What a stimulus breaks first is in the set, or
-- unknown.
pub record HasSet (t : Problem) (r : Findings) : Type 0 where
  pub is_set : IsDebuggingSet t.assumed (marks_of r.lines) r.set
  pub fail : All (FailsLocally t) r.set
  pub hold : (p : ℕ) → HasMark r p Proved → FailsLocally t p → ⊥
  pub exact : AllKnown r → (p : ℕ) → bit t.assumed p ≡ true → Contains r.set p ↔ FailsLocally t p
  pub first : (m : Trace) (p : ℕ) → IsFirstBroken t m p
      → Contains r.set p ⊎ IsUnknown (marks_of r.lines) p
