-- How a blocked clause is shrunk, and when what is known says no more than the levels.
use Rattle.std.specs.Prelude.{◌≡◌, ℕ, Bool, true, false, List, All}
use Rattle.ja_base.specs.Clauses.{has_literal, is_part}
use Rattle.ja_base.specs.Literals.{negated}
use Rattle.aig_model.specs.Netlist.{Netlist, circuit}
use Rattle.aig_model.specs.Task.{VerificationTask}
use Rattle.ja_project.specs.CodedClauses.{next_literal}
use Rattle.ja_project.specs.Latches.{is_foreign}
use Rattle.ja_project.specs.Start.{starts}
use Rattle.ic3_frames.specs.Levels.{Levels, is_blocked}
use Rattle.ic3_query.specs.declared.asked.Asked.{Asked}
use Rattle.ic3_query.specs.declared.asked.Asked.TheVariants.{Before, Blocked}
use Rattle.ic3_query.specs.Questions.{IsKeptAt, IsPartFor}

-- each known clause is subsumed by one that stands at the top
abbrev pub AreBlockedAtTop : Levels → List (List ℕ) → Type 0
AreBlockedAtTop f known = All (λ clause. is_blocked f.kept f.top clause ≡ true) known

-- the core rests on the negation of the literal one step later
abbrev pub is_rested_on : Netlist → List ℕ → ℕ → Bool
is_rested_on n core l = has_literal core (negated (next_literal n.latches l))

-- a part of a clause over latches that each initial row meets
pub record IsStartingPart (n : Netlist) (clause part : List ℕ) : Type 0 where
  pub within : is_part part clause ≡ true
  pub own : is_foreign (circuit n) part ≡ false
  pub begins : starts (circuit n) part ≡ true

-- such a part, with each literal that the core rests on
pub record IsCut (n : Netlist) (core clause part : List ℕ) : Type 0 where
  pub rests : IsPartFor n core clause part
  pub own : is_foreign (circuit n) part ≡ false
  pub begins : starts (circuit n) part ≡ true

-- a clause after one literal was tried: where some step leads out of what was asked about it stays, else it is what was asked
-- about, cut to the core
abbrev pub IsAfter : Netlist → List ℕ → List ℕ → Asked → List ℕ → Type 0
IsAfter n left tried Before now = now ≡ left
IsAfter n left tried (Blocked core) now = IsCut n core tried now

-- such a part that each step from the level keeps
pub record IsShrunk (t : VerificationTask) (known : List (List ℕ)) (f : Levels) (k : ℕ)
    (clause part : List ℕ) : Type 0 where
  pub starting : IsStartingPart t.design clause part
  pub kept : IsKeptAt t known f k part
