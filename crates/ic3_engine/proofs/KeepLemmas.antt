-- What is kept at a level.
use Rattle.std.proofs.Common.{ℕ, suc, zero, ◌+◌, ◌<◌, Bool, List, arith}
use Rattle.aig_model.specs.Netlist.{circuit}
use Rattle.aig_model.specs.Task.{VerificationTask}
use Rattle.ic3_frames.specs.Levels.{Levels, AreLevels}
use Rattle.ic3_frames.specs.Soundness.{IsBlockedFrom, IsIn}
use Rattle.ic3_query.specs.Known.{HoldsAtStart, IsForGood}
use Rattle.ic3_query.specs.Questions.{IsKeptAt}

-- each row is of the level above the top
pub all_above_top : (t : VerificationTask) (f : Levels) (s : List Bool) → AreLevels f → IsIn (circuit t.design) f.kept (f.top + 1) s
all_above_top t f s levels = above (f.top + 1) (omega arith)
  where
    above : (k : ℕ) → f.top < k → IsIn (circuit t.design) f.kept k s
    above zero h = absurd (omega (arith, h))
    above (suc k) h = λ j d within up. absurd (let le = (levels j d within).1 in omega (arith, h, up, le))

-- what is kept above the top is kept where only what is known counts
pub kept_is_good : (t : VerificationTask) (known : List (List ℕ)) (f : Levels) (clause : List ℕ) → AreLevels f
    → HoldsAtStart (circuit t.design) clause → IsKeptAt t known f (f.top + 1) clause → IsForGood (circuit t.design) t.expected known clause
kept_is_good t known f clause levels begins kept = record {
  starts = begins;
  steps = λ s x v step met clause_met constrained held. kept s x v step met (all_above_top t f s levels) clause_met constrained held;
}

pub kept_is_blocked : (t : VerificationTask) (known : List (List ℕ)) (f : Levels) (k : ℕ) (clause : List ℕ)
    → HoldsAtStart (circuit t.design) clause → IsKeptAt t known f k clause → IsBlockedFrom (circuit t.design) t.expected known f.kept k clause
kept_is_blocked t known f k clause begins kept = record {
  starts = begins;
  steps = λ s x v step met in_level clause_met constrained held. kept s x v step met in_level clause_met constrained held;
}
