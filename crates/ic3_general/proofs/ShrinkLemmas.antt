-- What is known says no more than the levels, where each known clause is blocked at the top.
use Rattle.std.proofs.Common.{ℕ, ◌≤◌, suc, zero, Bool, List, [], get_or}
use Rattle.ja_base.specs.Invariants.{MeetsClauses}
use Rattle.aig_model.specs.Netlist.{circuit}
use Rattle.aig_model.specs.Task.{VerificationTask, problem}
use Rattle.ic3_frames.specs.Levels.{Levels}
use Rattle.ic3_frames.specs.Soundness.{IsIn}
use Rattle.ic3_query.specs.Known.{IsKnown}
use Rattle.ic3_query.specs.Questions.{IsKeptAt}
use Rattle.ic3_query.proofs.FitLemmas.{blocked_is_met}
use Rattle.ic3_general.specs.Shrinking.{AreBlockedAtTop}

-- a row of a level meets what is known
known_is_met : (t : VerificationTask) (known : List (List ℕ)) (f : Levels) (k : ℕ) (s : List Bool) → IsKnown (problem t) known
    → AreBlockedAtTop f known → k ≤ f.top → IsIn (circuit t.design) f.kept k s → MeetsClauses (circuit t.design) s known
known_is_met t known f zero s is_known blocked low initial = is_known.inductive.starts s initial
known_is_met t known f (suc k) s is_known blocked low there = λ j d within.
    blocked_is_met (circuit t.design) s f.kept (suc k) f.top (get_or known j d) low there (blocked j d within)

-- a clause that is kept where what is known is met is kept without a word on it
pub kept_alone : (t : VerificationTask) (known : List (List ℕ)) (f : Levels) (k : ℕ) (clause : List ℕ) → IsKnown (problem t) known
    → IsKeptAt t known f k clause → AreBlockedAtTop f known → k ≤ f.top → IsKeptAt t [] f k clause
kept_alone t known f k clause is_known kept blocked low s x v now none there =
    kept s x v now (known_is_met t known f k s is_known blocked low there) there
