-- Where each known clause is blocked at the top, the levels alone say what the solver says.
use Rattle.std.proofs.Common.{◌≡◌, ℕ, suc, zero, ◌≤◌, nat_le, Bool, true, List, [], ◌∷◌, get_or, ⊎_elim, arith}
use Rattle.std.proofs.lemmas.Bool.{and_parts, or_cases}
use Rattle.std.proofs.lemmas.Bool.Decides.{nat_tests}
use Rattle.std.proofs.lemmas.List.Elements.{All-head, All-tail}
use Rattle.ja_base.specs.Circuit.{Circuit}
use Rattle.ja_base.specs.Clauses.{is_part}
use Rattle.ja_base.specs.Invariants.{latch_value, MeetsClauses}
use Rattle.ja_base.specs.Valuation.{latch_row}
use Rattle.aig_model.specs.Netlist.{circuit}
use Rattle.ic3_frames.specs.Levels.{Entry, is_blocked, is_blocked_by}
use Rattle.ic3_frames.specs.Soundness.{Meets, MeetsAt, IsIn}
use Rattle.ic3_frames.proofs.GainLemmas.{meets_more}
use Rattle.ic3_query.specs.Laws.{FramesFit}

up_to : (top level : ℕ) → nat_le top level ≡ true → top ≤ level
up_to top level e = grind (arith, nat_tests)

-- a row of a level meets what is blocked there or above
pub blocked_is_met : (c : Circuit) (s : List Bool) (kept : List Entry) (k top : ℕ) (clause : List ℕ) → k ≤ top
    → MeetsAt c s kept k → is_blocked kept top clause ≡ true → Meets c s clause
blocked_is_met c s [] k top clause up meets blocked = absurd cc
blocked_is_met c s (e ∷ es) k top clause up meets blocked =
    ⊎_elim (λ here. by_entry (and_parts (nat_le top e.level) (is_part e.clause clause) here))
    (λ later. blocked_is_met c s es k top clause up (All-tail (λ (e : Entry). k ≤ e.level → Meets c s e.clause) e es meets) later)
    (or_cases (is_blocked_by top clause e) (is_blocked es top clause) blocked)
  where
    by_entry : (nat_le top e.level ≡ true) × (is_part e.clause clause ≡ true) → Meets c s clause
    by_entry both =
        meets_more (latch_value c.latches s) e.clause clause both.1
        (All-head (λ (e : Entry). k ≤ e.level → Meets c s e.clause) e es meets (omega (arith, up, up_to top e.level both.0)))

pub frames_fit : FramesFit
frames_fit t known f clauses inductive blocked fits row coded k high there exactly =
    fits row (record { coded = coded; known_met = by_level k high there }) k there exactly
  where
    by_level : (k : ℕ) → k ≤ f.top → IsIn (circuit t.design) f.kept k (latch_row (circuit t.design) row)
        → MeetsClauses (circuit t.design) (latch_row (circuit t.design) row) known
    by_level zero high initial = inductive.starts (latch_row (circuit t.design) row) initial
    by_level (suc k) high there = λ j d within.
        blocked_is_met (circuit t.design) (latch_row (circuit t.design) row) f.kept (suc k) f.top (get_or known j d) high there
        (blocked j d within)
