-- Known clauses at the top: what stays true of the levels.
use Rattle.std.proofs.Common.{◌≡◌, ℕ, suc, zero, ◌+◌, ◌-◌, ◌≤◌, Bool, true, false, cond, List, [], ◌∷◌, ◌++◌, drop, slice_get, Some, refl, sym, ap, ◌∙◌, subst, arith}
use Rattle.std.specs.Prelude.{All, Contains}
use Rattle.std.proofs.lemmas.List.Elements.{All-contains, All-head, All-tail, All-nil, All-cons, Contains-get_or}
use Rattle.ja_base.specs.Invariants.{IsInductive, MeetsClauses, latch_value}
use Rattle.ja_base.specs.Literals.{SatisfiedBy}
use Rattle.ja_base.specs.Valuation.{latch_row}
use Rattle.aig_model.specs.Netlist.{circuit}
use Rattle.aig_model.specs.Task.{VerificationTask}
use Rattle.ja_project.specs.Latches.{is_foreign}
use Rattle.ic3_frames.specs.Apart.{IsTighter}
use Rattle.ic3_frames.specs.Levels.{Entry, Levels, added, is_blocked}
use Rattle.ic3_frames.specs.Soundness.{Gains, IsBlockedFrom, IsIn, Meets}
use Rattle.ic3_frames.proofs.ApartLemmas.{additions_stay_apart}
use Rattle.ic3_frames.proofs.GainLemmas.{additions_gain}
use Rattle.ic3_frames.proofs.LevelLemmas.{All-added}
use Rattle.ic3_frames.proofs.SoundLemmas.{gains_are_sound}
use Rattle.ic3_frames.proofs.SumLemmas.{additions_never_lower}
use Rattle.ic3_query.specs.Known.{AreOwn}
use Rattle.ic3_query.specs.Serving.{Serves}
use Rattle.ic3_engine.specs.Putting.{put_all, put_at}
use Rattle.ic3_engine.specs.Searching.{IsCore}
use Rattle.ic3_engine.proofs.LevelLemmas.{added_blocks, stays_blocked}

pub drop_step : {X : Type 0} (xs : List X) (k : ℕ) (x : X) → slice_get xs k ≡ Some x → drop k xs ≡ x ∷ drop (k + 1) xs
drop_step [] k x is = absurd cc
drop_step (y ∷ xs) zero x is = let same : y ≡ x = cc in ap (λ z. z ∷ xs) same
drop_step (y ∷ xs) (suc k) x is = let e : suc k + 1 ≡ suc (k + 1) = omega arith in rw e (drop_step xs k x is)

pub put_all_append : (top : ℕ) (first second : List (List ℕ)) (kept : List Entry)
    → put_all top (first ++ second) kept ≡ put_all top second (put_all top first kept)
put_all_append top [] second kept = refl
put_all_append top (c ∷ cs) second kept = put_all_append top cs second (put_at top c kept)

pub put_step : (top : ℕ) (clauses : List (List ℕ)) (k : ℕ) (c : List ℕ) (old new start : List Entry) → slice_get clauses k ≡ Some c
    → new ≡ put_at top c old → put_all top (drop k clauses) old ≡ put_all top clauses start
    → put_all top (drop (k + 1) clauses) new ≡ put_all top clauses start
put_step top clauses k c old new start is put before =
    ap (put_all top (drop (k + 1) clauses)) put
    ∙ ap (λ (cs : List (List ℕ)). put_all top cs old) (sym (drop_step clauses k c is)) ∙ before

-- the levels with other kept clauses
abbrev pub with_kept : Levels → List Entry → Levels
with_kept f kept = record { top = f.top; kept = kept }

module _ (t : VerificationTask) (known : List (List ℕ)) (inductive : IsInductive (circuit t.design) t.expected known)
    (own_known : AreOwn (circuit t.design) known) where
  is_met : (s : List Bool) (clause : List ℕ) → Contains known clause → MeetsClauses (circuit t.design) s known → Meets (circuit t.design) s clause
  is_met s clause there met = All-contains (SatisfiedBy (latch_value (circuit t.design).latches s)) known clause met there

  serves_with_known : (f : Levels) (level count : ℕ) (clauses : List (List ℕ)) (clause : List ℕ) → Contains known clause
      → Serves t.design known f count clauses → Serves t.design known (with_kept f (added clause level f.kept)) count clauses
  serves_with_known f level count clauses clause there serves = record {
    width = serves.width;
    small = serves.small;
    holds = record {
      step = serves.holds.step;
      level = λ row met k on. stays_in k (latch_row (circuit t.design) row) (serves.holds.step row met).known_met (serves.holds.level row met k on);
    };
    fits = λ row step k in_level exactly. serves.fits row step k (was_in k (latch_row (circuit t.design) row) in_level) exactly;
  }
    where
      gains : Gains (circuit t.design) level clause f.kept (added clause level f.kept)
      gains = additions_gain (circuit t.design) f.kept clause level

      stays_in : (k : ℕ) (s : List Bool) → MeetsClauses (circuit t.design) s known → IsIn (circuit t.design) f.kept k s
          → IsIn (circuit t.design) (added clause level f.kept) k s
      stays_in zero s met h = h
      stays_in (suc k) s met h = gains.forth (suc k) s h (λ up. is_met s clause there met)

      was_in : (k : ℕ) (s : List Bool) → IsIn (circuit t.design) (added clause level f.kept) k s → IsIn (circuit t.design) f.kept k s
      was_in zero s h = h
      was_in (suc k) s h = gains.back (suc k) s h

  -- one clause more at the top
  core_with_known : (f : Levels) (clause : List ℕ) (count : ℕ) (clauses : List (List ℕ)) → 1 ≤ f.top → Contains known clause
      → is_blocked f.kept f.top clause ≡ false → IsCore t known f count clauses
      → IsCore t known (with_kept f (added clause f.top f.kept)) count clauses
  core_with_known f clause count clauses low there free core = record {
    sound = gains_are_sound (circuit t.design) t.expected known f.kept (added clause f.top f.kept) (f.top - 1) clause core.sound blocked
        (subst (λ l. Gains (circuit t.design) l clause f.kept (added clause f.top f.kept)) one
        (additions_gain (circuit t.design) f.kept clause f.top));
    apart = additions_stay_apart clause f.top f.kept core.apart free;
    own = All-added clause f.top (λ (e : Entry). is_foreign (circuit t.design) e.clause ≡ false) f.kept core.own
        (All-contains (λ c. is_foreign (circuit t.design) c ≡ false) known clause own_known there);
    levels = All-added clause f.top (λ (e : Entry). (1 ≤ e.level) × (e.level ≤ f.top)) f.kept core.levels (low, omega arith);
    serves = serves_with_known f f.top count clauses clause there core.serves;
  }
    where
      one : f.top ≡ f.top - 1 + 1
      one = omega (arith, low)

      blocked : IsBlockedFrom (circuit t.design) t.expected known f.kept (f.top - 1) clause
      blocked = record {
        starts = λ s initial. is_met s clause there (inductive.starts s initial);
        steps = λ s x v step met in_level clause_met constrained held. is_met _ clause there (inductive.steps s x v step met constrained held);
      }

  -- what putting keeps
  pub record IsPut (top : ℕ) (old new : List Entry) : Type 0 where
    pub core : (count : ℕ) (clauses : List (List ℕ)) → IsCore t known (record { top = top; kept = old }) count clauses
        → IsCore t known (record { top = top; kept = new }) count clauses
    pub tighter : IsTighter (circuit t.design) old new
    pub stays : (c : List ℕ) → is_blocked old top c ≡ true → is_blocked new top c ≡ true

  one_put : (top : ℕ) (kept : List Entry) (clause : List ℕ) → 1 ≤ top → Contains known clause → IsPut top kept (put_at top clause kept)
  one_put top kept clause low there = by_test (is_blocked kept top clause) refl
    where
      by_test : (b : Bool) → is_blocked kept top clause ≡ b → IsPut top kept (cond b kept (added clause top kept))
      by_test true e = record {
        core = λ count clauses core. core;
        tighter = record { rises = λ c. omega arith; back = λ k s h. h };
        stays = λ c h. h;
      }
      by_test false e = record {
        core = λ count clauses core. core_with_known (record { top = top; kept = kept }) clause count clauses low there e core;
        tighter = record {
          rises = additions_never_lower clause top kept;
          back = (additions_gain (circuit t.design) kept clause top).back;
        };
        stays = stays_blocked clause top kept top;
      }

  put_then : (top : ℕ) (a b c : List Entry) → IsPut top a b → IsPut top b c → IsPut top a c
  put_then top a b c first second = record {
    core = λ count clauses core. second.core count clauses (first.core count clauses core);
    tighter = record {
      rises = λ clause. omega (arith, first.tighter.rises clause, second.tighter.rises clause);
      back = λ k s h. first.tighter.back k s (second.tighter.back k s h);
    };
    stays = λ clause h. second.stays clause (first.stays clause h);
  }

  blocked_once_put : (top : ℕ) (kept : List Entry) (clause : List ℕ) → is_blocked (put_at top clause kept) top clause ≡ true
  blocked_once_put top kept clause = by_test (is_blocked kept top clause) refl
    where
      by_test : (b : Bool) → is_blocked kept top clause ≡ b → is_blocked (cond b kept (added clause top kept)) top clause ≡ true
      by_test true e = e
      by_test false e = added_blocks clause top kept

  -- these clauses are put, and each is blocked at the top
  pub record ArePut (top : ℕ) (clauses : List (List ℕ)) (old new : List Entry) : Type 0 where
    pub put : IsPut top old new
    pub blocked : All (λ c. is_blocked new top c ≡ true) clauses

  pub are_put : (top : ℕ) (clauses : List (List ℕ)) (kept : List Entry) → 1 ≤ top → All (Contains known) clauses
      → ArePut top clauses kept (put_all top clauses kept)
  are_put top [] kept low there = record {
    put = record {
      core = λ count clauses core. core;
      tighter = record { rises = λ c. omega arith; back = λ k s h. h };
      stays = λ c h. h;
    };
    blocked = All-nil (λ c. is_blocked kept top c ≡ true);
  }
  are_put top (c ∷ cs) kept low there =
      let rest = are_put top cs (put_at top c kept) low (All-tail (Contains known) c cs there) in
      record {
        put = put_then top kept (put_at top c kept) (put_all top cs (put_at top c kept)) (one_put top kept c low (All-head (Contains known) c cs there)) rest.put;
        blocked = All-cons (λ d. is_blocked (put_all top cs (put_at top c kept)) top d ≡ true) c cs
            (rest.put.stays c (blocked_once_put top kept c)) rest.blocked;
      }

  pub known_is_put : (top : ℕ) (kept : List Entry) → 1 ≤ top → ArePut top known kept (put_all top known kept)
  known_is_put top kept low = are_put top known kept low (λ k d within. Contains-get_or known k d within)
