-- Which clauses are blocked once one is added, and which are not.
use Rattle.std.proofs.Common.{◌≡◌, ℕ, ◌≤◌, ◌&&◌, ◌||◌, Bool, true, false, not, cond, List, [], ◌∷◌, ◌++◌, ⊎_elim, refl, arith}
use Rattle.std.specs.Prelude.{nat_le, filter}
use Rattle.std.specs.List.{list_any}
use Rattle.std.proofs.lemmas.Bool.{or_cases, or_left, or_right, and_parts, both_ways, false_from_ne_true}
use Rattle.std.proofs.lemmas.Bool.Decides.{nat_tests}
use Rattle.std.proofs.lemmas.List.Elements.{All-head, All-tail}
use Rattle.ja_base.specs.Clauses.{is_part}
use Rattle.ja_base.specs.Circuit.{Circuit}
use Rattle.ja_base.specs.Invariants.{latch_value}
use Rattle.ic3_frames.specs.Levels.{Entry, added, is_blocked, is_blocked_by, takes_place}
use Rattle.ic3_frames.specs.Soundness.{Meets, MeetsAt}
use Rattle.ic3_frames.proofs.GainLemmas.{meets_more}
use Rattle.ic3_frames.proofs.SumLemmas.{blocked_more, part_of_part}
use Rattle.ic3_general.specs.Cubes.{IsOutside}
use Rattle.ic3_engine.proofs.ClauseLemmas.{part_of_itself}

pub and_both : (a b : Bool) → a ≡ true → b ≡ true → (a && b) ≡ true
and_both true b e f = f
and_both false b e f = e

pub le_true : (a b : ℕ) → a ≤ b → nat_le a b ≡ true
le_true a b h = grind (arith, nat_tests)

pub true_le : (a b : ℕ) → nat_le a b ≡ true → a ≤ b
true_le a b h = grind (arith, nat_tests)

-- the last entry blocks what its clause is a part of, up to its level
last_blocks : (xs : List Entry) (new : Entry) (level : ℕ) (c : List ℕ) → level ≤ new.level → is_part new.clause c ≡ true
    → is_blocked (xs ++ new ∷ []) level c ≡ true
last_blocks [] new level c low part =
    or_left (is_blocked_by level c new) false (and_both (nat_le level new.level) (is_part new.clause c) (le_true level new.level low) part)
last_blocks (x ∷ xs) new level c low part =
    or_right (is_blocked_by level c x) (is_blocked (xs ++ new ∷ []) level c) (last_blocks xs new level c low part)

module _ (clause : List ℕ) (level : ℕ) where
  abbrev new : Entry
  new = record { clause = clause; level = level }

  pub added_blocks : (kept : List Entry) → is_blocked (added clause level kept) level clause ≡ true
  added_blocks kept = last_blocks (filter (λ e. not (takes_place new e)) kept) new level clause (omega arith) (part_of_itself clause)

  -- what was blocked stays blocked
  pub stays_blocked : (kept : List Entry) (at : ℕ) (c : List ℕ) → is_blocked kept at c ≡ true → is_blocked (added clause level kept) at c ≡ true
  stays_blocked [] at c h = absurd cc
  stays_blocked (e ∷ es) at c h =
      ⊎_elim (here (takes_place new e) refl) (λ later. behind (takes_place new e) (stays_blocked es at c later))
      (or_cases (is_blocked_by at c e) (is_blocked es at c) h)
    where
      rest : List Entry
      rest = filter (λ e. not (takes_place new e)) es

      here : (t : Bool) → takes_place new e ≡ t → is_blocked_by at c e ≡ true
          → is_blocked (cond (not t) (e ∷ rest) rest ++ new ∷ []) at c ≡ true
      here true taken blocks =
          let both = and_parts (nat_le e.level level) (is_part clause e.clause) taken in
          let was = and_parts (nat_le at e.level) (is_part e.clause c) blocks in
          let low = true_le e.level level both.0 in
          let lower = true_le at e.level was.0 in
          last_blocks rest new at c (omega (arith, low, lower)) (part_of_part clause e.clause c both.1 was.1)
      here false stays blocks = or_left (is_blocked_by at c e) (is_blocked (rest ++ new ∷ []) at c) blocks

      behind : (t : Bool) → is_blocked (rest ++ new ∷ []) at c ≡ true → is_blocked (cond (not t) (e ∷ rest) rest ++ new ∷ []) at c ≡ true
      behind true h = h
      behind false h = or_right (is_blocked_by at c e) (is_blocked (rest ++ new ∷ []) at c) h

-- a part of a clause that is not blocked is not blocked either
pub part_is_free : (kept : List Entry) (level : ℕ) (part clause : List ℕ) → is_part part clause ≡ true
    → is_blocked kept level clause ≡ false → is_blocked kept level part ≡ false
part_is_free kept level part clause within free =
    false_from_ne_true (is_blocked kept level part)
    (λ t. both_ways (is_blocked kept level clause) free (blocked_more kept level part clause within t))

blocked_lower : (kept : List Entry) (low high : ℕ) (clause : List ℕ) → low ≤ high → is_blocked kept high clause ≡ true
    → is_blocked kept low clause ≡ true
blocked_lower [] low high clause le h = absurd cc
blocked_lower (e ∷ es) low high clause le h =
    ⊎_elim
    (λ here. let both = and_parts (nat_le high e.level) (is_part e.clause clause) here in
    let up = true_le high e.level both.0 in
    or_left (is_blocked_by low clause e) (is_blocked es low clause)
    (and_both (nat_le low e.level) (is_part e.clause clause) (le_true low e.level (omega (arith, le, up))) both.1))
    (λ later. or_right (is_blocked_by low clause e) (is_blocked es low clause) (blocked_lower es low high clause le later))
    (or_cases (is_blocked_by high clause e) (is_blocked es high clause) h)

-- a clause that is not blocked at a level is not blocked above it
pub free_above : (kept : List Entry) (low high : ℕ) (clause : List ℕ) → low ≤ high → is_blocked kept low clause ≡ false
    → is_blocked kept high clause ≡ false
free_above kept low high clause le free =
    false_from_ne_true (is_blocked kept high clause)
    (λ t. both_ways (is_blocked kept low clause) free (blocked_lower kept low high clause le t))

-- a clause that excludes a row of the level is not blocked there
pub excluding_is_free : (c : Circuit) (kept : List Entry) (k : ℕ) (clause : List ℕ) (s : List Bool) → MeetsAt c s kept k
    → IsOutside c clause s → is_blocked kept k clause ≡ false
excluding_is_free c [] k clause s meets out = refl
excluding_is_free c (e ∷ es) k clause s meets out =
    or_none (is_blocked_by k clause e) (is_blocked es k clause)
    (false_from_ne_true (is_blocked_by k clause e) (λ t.
    let both = and_parts (nat_le k e.level) (is_part e.clause clause) t in
    let met = All-head (λ (e : Entry). k ≤ e.level → Meets c s e.clause) e es meets (true_le k e.level both.0) in
    both_ways (list_any (latch_value c.latches s) clause) out.unmet (meets_more (latch_value c.latches s) e.clause clause both.1 met)))
    (excluding_is_free c es k clause s (All-tail (λ (e : Entry). k ≤ e.level → Meets c s e.clause) e es meets) out)
  where
    or_none : (a b : Bool) → a ≡ false → b ≡ false → (a || b) ≡ false
    or_none true b e f = e
    or_none false b e f = f
