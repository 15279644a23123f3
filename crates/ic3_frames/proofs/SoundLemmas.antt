-- Levels stay sound where they gain a blocked clause, and a fixed level is inductive.
use Rattle.std.proofs.Common.{◌≡◌, ℕ, suc, zero, ◌+◌, ◌≤◌, Bool, true, false, cond, List, [], ◌∷◌, ◌++◌, get_or, map, refl, sym, subst, arith}
use Rattle.std.specs.Prelude.{All, Contains, nat_le, filter}
use Rattle.std.proofs.lemmas.Bool.Decides.{nat_tests}
use Rattle.std.proofs.lemmas.List.Elements.{All-nil, All-cons, All-head, All-tail, All-append, All-contains}
use Rattle.ja_base.specs.Circuit.{Circuit}
use Rattle.ja_base.specs.Valuation.{next_state}
use Rattle.ja_base.specs.Invariants.{MeetsClauses, IsInductive}
use Rattle.ja_base.proofs.JoinLemmas.{first_is_part, second_is_part}
use Rattle.ic3_frames.specs.Levels.{Entry, at_level, stands_at}
use Rattle.ic3_frames.specs.Soundness.{Meets, MeetsAt, IsIn, AreSound, IsBlockedFrom, Gains}

pub meets_higher : (c : Circuit) (s : List Bool) (kept : List Entry) (j k : ℕ) → j ≤ k → MeetsAt c s kept j → MeetsAt c s kept k
meets_higher c s kept j k up h = λ p d within high. h p d within (omega (arith, up, high))

-- the rows of a level are among those of each higher one
pub in_higher : (c : Circuit) (set : List Bool) (known : List (List ℕ)) (kept : List Entry) → AreSound c set known kept
    → (j k : ℕ) (s : List Bool) → j ≤ k → IsIn c kept j s → IsIn c kept k s
in_higher c set known kept sound zero zero s up h = h
in_higher c set known kept sound zero (suc k) s up h = meets_higher c s kept 0 (suc k) (omega arith) (sound.starts s h)
in_higher c set known kept sound (suc j) zero s up h = absurd (omega (arith, up))
in_higher c set known kept sound (suc j) (suc k) s up h = meets_higher c s kept (suc j) (suc k) up h

module _ (c : Circuit) (set : List Bool) (known : List (List ℕ)) (old new : List Entry) (k : ℕ) (clause : List ℕ)
    (sound : AreSound c set known old) (blocked : IsBlockedFrom c set known old k clause) (gains : Gains c (k + 1) clause old new) where
  was_in : (j : ℕ) (s : List Bool) → IsIn c new j s → IsIn c old j s
  was_in zero s h = h
  was_in (suc j) s h = gains.back (suc j) s h

  met_there : (j : ℕ) (s : List Bool) → j ≤ k → IsIn c new j s → Meets c s clause
  met_there zero s up h = blocked.starts s h
  met_there (suc j) s up h = gains.gained (suc j) s h (omega (arith, up))

  pub gains_are_sound : AreSound c set known new
  gains_are_sound = record {
    starts = λ s initial. gains.forth 0 s (sound.starts s initial) (λ _. blocked.starts s initial);
    steps = λ j s x v now met there constrained held.
        gains.forth (suc j) (next_state c v) (sound.steps j s x v now met (was_in j s there) constrained held) (λ up.
        let low : j ≤ k = omega (arith, up) in
        blocked.steps s x v now met (in_higher c set known old sound j k s low (was_in j s there)) (met_there j s low there) constrained held);
  }

-- ---- the clauses of a level as a list

stands : (k l : ℕ) → nat_le k l ≡ true → k ≤ l
stands k l e = grind (arith, nat_tests)

stands_not : (k l : ℕ) → nat_le k l ≡ false → k ≤ l → ⊥
stands_not k l e h = grind (arith, nat_tests)

pub listed_are_met : (c : Circuit) (s : List Bool) (k : ℕ) (kept : List Entry) → MeetsAt c s kept k → MeetsClauses c s (at_level kept k)
listed_are_met c s k [] all = All-nil (Meets c s)
listed_are_met c s k (e ∷ es) all =
    by_test (nat_le k e.level) refl
    (listed_are_met c s k es (All-tail (λ (e : Entry). k ≤ e.level → Meets c s e.clause) e es all))
  where
    by_test : (b : Bool) → nat_le k e.level ≡ b → MeetsClauses c s (at_level es k)
        → MeetsClauses c s (map (λ (e : Entry). e.clause) (cond b (e ∷ filter (stands_at k) es) (filter (stands_at k) es)))
    by_test true is later =
        All-cons (Meets c s) e.clause (at_level es k)
        (All-head (λ (e : Entry). k ≤ e.level → Meets c s e.clause) e es all (stands k e.level is)) later
    by_test false is later = later

pub met_where_listed : (c : Circuit) (s : List Bool) (k : ℕ) (kept : List Entry) → MeetsClauses c s (at_level kept k) → MeetsAt c s kept k
met_where_listed c s k [] all = All-nil (λ (e : Entry). k ≤ e.level → Meets c s e.clause)
met_where_listed c s k (e ∷ es) all = by_test (nat_le k e.level) refl (met_where_listed c s k es) all
  where
    by_test : (b : Bool) → nat_le k e.level ≡ b → (MeetsClauses c s (at_level es k) → MeetsAt c s es k)
        → MeetsClauses c s (map (λ (e : Entry). e.clause) (cond b (e ∷ filter (stands_at k) es) (filter (stands_at k) es)))
        → MeetsAt c s (e ∷ es) k
    by_test true is later all =
        All-cons (λ (e : Entry). k ≤ e.level → Meets c s e.clause) e es (λ _. All-head (Meets c s) e.clause (at_level es k) all)
        (later (All-tail (Meets c s) e.clause (at_level es k) all))
    by_test false is later all =
        All-cons (λ (e : Entry). k ≤ e.level → Meets c s e.clause) e es (λ up. absurd (stands_not k e.level is up)) (later all)

all_part : (P : List ℕ → Type 0) (many few : List (List ℕ)) → All P many → All (Contains many) few → All P few
all_part P many few all part k d h = All-contains P many (get_or few k d) all (part k d h)

pub fixed_is_inductive : (c : Circuit) (set : List Bool) (known : List (List ℕ)) (kept : List Entry) (k : ℕ) → IsInductive c set known
    → AreSound c set known kept → 1 ≤ k → at_level kept k ≡ at_level kept (k + 1) → IsInductive c set (known ++ at_level kept k)
fixed_is_inductive c set known kept zero inductive sound low same = absurd (omega (arith, low))
fixed_is_inductive c set known kept (suc k) inductive sound low same =
    let level : List (List ℕ) = at_level kept (suc k) in
    let next : suc (suc k) ≡ suc k + 1 = omega arith in
    record {
      starts = λ s initial. All-append (Meets c s) known level (inductive.starts s initial)
          (listed_are_met c s (suc k) kept (meets_higher c s kept 0 (suc k) (omega arith) (sound.starts s initial)));
      steps = λ s x v now meets constrained held.
          let of_known : MeetsClauses c s known = all_part (Meets c s) (known ++ level) known meets (first_is_part known level) in
          let of_level : MeetsClauses c s level = all_part (Meets c s) (known ++ level) level meets (second_is_part known level) in
          let after : MeetsAt c (next_state c v) kept (suc (suc k)) =
          sound.steps (suc k) s x v now of_known (met_where_listed c s (suc k) kept of_level) constrained held in
          let listed : MeetsClauses c (next_state c v) (at_level kept (suc k + 1)) =
          subst (λ n. MeetsClauses c (next_state c v) (at_level kept n)) next (listed_are_met c (next_state c v) (suc (suc k)) kept after) in
          All-append (Meets c (next_state c v)) known level (inductive.steps s x v now of_known constrained held)
          (subst (MeetsClauses c (next_state c v)) (sym same) listed);
    }
