-- What the questions of a search answer. The values of a step are the answer: they have a bit for each variable of the design.
use Rattle.std.specs.Prelude.{◌≡◌, ℕ, ◌+◌, Bool, true, false, Option, Some, None, List, length, All, Contains}
use Rattle.std.specs.List.{list_any}
use Rattle.ja_base.specs.Circuit.{Circuit}
use Rattle.ja_base.specs.Clauses.{is_part}
use Rattle.ja_base.specs.Literals.{negated}
use Rattle.ja_base.specs.Valuation.{IsValuation, latch_row, input_row, next_state, IsBad, IsGood, MeetsConstraints, AssumptionsHold}
use Rattle.ja_base.specs.Invariants.{latch_value, MeetsClauses}
use Rattle.aig_model.specs.Netlist.{Netlist, circuit}
use Rattle.aig_model.specs.Task.{VerificationTask}
use Rattle.aig_eval.specs.Rows.{IsClear}
use Rattle.ja_project.specs.CodedClauses.{next_literal}
use Rattle.ja_project.specs.Latches.{is_foreign}
use Rattle.sat_plain.specs.Probed.{Closes, IsOpen}
use Rattle.ic3_frames.specs.Levels.{Levels, Entry}
use Rattle.ic3_frames.specs.Soundness.{Meets, IsIn}
use Rattle.ic3_query.specs.declared.asked.Asked.{Asked}
use Rattle.ic3_query.specs.declared.asked.Asked.TheVariants.{Before, Blocked}
use Rattle.ic3_query.specs.Known.{IsKept}

-- the row of a solver and the values of a step have a bit for each variable of the design
pub record IsRoom (n : Netlist) (row values : List Bool) : Type 0 where
  pub wide : length row ≡ n.vars + 1
  pub clear : IsClear (circuit n) values

-- the clauses of the levels are over latches, and none says nothing
abbrev pub AreOwnLevels : Netlist → List Entry → Type 0
AreOwnLevels n kept = All (λ (e : Entry). is_foreign (circuit n) e.clause ≡ false) kept

-- the values are those of their own latch and input bits
abbrev pub IsStep : Circuit → List Bool → Type 0
IsStep c values = IsValuation c (latch_row c values) (input_row c values) values

-- a step from a row of the level that meets the clause, to one that does not
pub record IsBefore (t : VerificationTask) (known : List (List ℕ)) (f : Levels) (k : ℕ)
    (clause : List ℕ) (values : List Bool) : Type 0 where
  pub now : IsStep (circuit t.design) values
  pub constrained : MeetsConstraints (circuit t.design) values
  pub held : AssumptionsHold (circuit t.design) t.expected values
  pub known_met : MeetsClauses (circuit t.design) (latch_row (circuit t.design) values) known
  pub level : IsIn (circuit t.design) f.kept k (latch_row (circuit t.design) values)
  pub outside : Meets (circuit t.design) (latch_row (circuit t.design) values) clause
  pub later : list_any (latch_value (circuit t.design).latches
      (next_state (circuit t.design) values)) clause ≡ false

-- each step from a row of the level that meets the clause leads to one that meets it
abbrev pub IsKeptAt : VerificationTask → List (List ℕ) → Levels → ℕ → List ℕ → Type 0
IsKeptAt t known f k clause = (s x v : List Bool) → IsValuation (circuit t.design) s x v
    → MeetsClauses (circuit t.design) s known → IsIn (circuit t.design) f.kept k s
    → Meets (circuit t.design) s clause → MeetsConstraints (circuit t.design) v
    → AssumptionsHold (circuit t.design) t.expected v
    → Meets (circuit t.design) (next_state (circuit t.design) v) clause

-- a part of the clause with each of its literals whose negation one step later the core rests on
pub record IsPartFor (n : Netlist) (core clause part : List ℕ) : Type 0 where
  pub within : is_part part clause ≡ true
  pub needed : (l : ℕ) → Contains clause l → Contains core (negated (next_literal n.latches l))
      → Contains part l

-- the clause is kept by each step from the level, and so is each part of it that has what the core rests on
pub record IsBlockedBy (t : VerificationTask) (known : List (List ℕ)) (f : Levels) (k : ℕ)
    (clause core : List ℕ) : Type 0 where
  pub kept : IsKeptAt t known f k clause
  pub parts : (part : List ℕ) → IsPartFor t.design core clause part → IsKeptAt t known f k part

-- the same where no level counts, but only what is known
pub record IsKnownBlockedBy (t : VerificationTask) (known : List (List ℕ))
    (clause core : List ℕ) : Type 0 where
  pub kept : IsKept (circuit t.design) t.expected known clause
  pub parts : (part : List ℕ) → IsPartFor t.design core clause part
      → IsKept (circuit t.design) t.expected known part

-- the values of a step out of the clause, or that there is none
abbrev pub AnswersFor : VerificationTask → List (List ℕ) → Levels → ℕ → List ℕ → List Bool
    → Asked → Type 0
AnswersFor t known f k clause values Before = IsBefore t known f k clause values
AnswersFor t known f k clause values (Blocked core) = IsBlockedBy t known f k clause core

-- the same where no level counts, but only what is known
abbrev pub KnownAnswersFor : VerificationTask → List (List ℕ) → Levels → List ℕ → List Bool
    → Asked → Type 0
KnownAnswersFor t known f clause values Before = IsBefore t known f (f.top + 1) clause values
KnownAnswersFor t known f clause values (Blocked core) = IsKnownBlockedBy t known clause core

-- a step from a row of the level that breaks the property; nothing is assumed
pub record IsBadRow (t : VerificationTask) (known : List (List ℕ)) (f : Levels) (k p : ℕ)
    (values : List Bool) : Type 0 where
  pub now : IsStep (circuit t.design) values
  pub constrained : MeetsConstraints (circuit t.design) values
  pub known_met : MeetsClauses (circuit t.design) (latch_row (circuit t.design) values) known
  pub level : IsIn (circuit t.design) f.kept k (latch_row (circuit t.design) values)
  pub bad : IsBad (circuit t.design) p values

-- no step from a row of the level breaks the property
abbrev pub IsGoodFrom : VerificationTask → List (List ℕ) → Levels → ℕ → ℕ → Type 0
IsGoodFrom t known f k p = (s x v : List Bool) → IsValuation (circuit t.design) s x v
    → MeetsClauses (circuit t.design) s known → IsIn (circuit t.design) f.kept k s
    → MeetsConstraints (circuit t.design) v → IsGood (circuit t.design) p v

-- the values of a step that breaks the property, or that there is none
abbrev pub BadFor : VerificationTask → List (List ℕ) → Levels → ℕ → ℕ → List Bool → Bool → Type 0
BadFor t known f k p values true = IsBadRow t known f k p values
BadFor t known f k p values false = IsGoodFrom t known f k p

-- nothing contradicts, so that the row has what was found, or a core is refuted
abbrev pub IsAnswered : ℕ → List (List ℕ) → List ℕ → Option (List ℕ) → List Bool
    → Option (List ℕ) → Type 0
IsAnswered vars clauses under among row None = IsOpen vars clauses under among row
IsAnswered vars clauses under among row (Some core) = Closes vars clauses under core
