-- Kept clauses stay apart where a clause is added that was not blocked, and where one is moved.
use Rattle.std.proofs.Common.{◌≡◌, ℕ, suc, zero, ◌&&◌, Bool, true, false, not, cond, List, [], ◌∷◌, length, get_or, slice_get, Some, refl, sym, ap, subst, arith}
use Rattle.std.specs.Prelude.{nat_le, filter, All}
use Rattle.std.proofs.lemmas.Bool.{or_parts}
use Rattle.std.proofs.lemmas.Bool.Decides.{nat_tests}
use Rattle.std.proofs.lemmas.List.Elements.{All-cons, All-nil}
use Rattle.std.proofs.lemmas.List.Kept.{AllPairs-filter}
use Rattle.std.proofs.lemmas.List.Quantifiers.{all_pairs_push}
use Rattle.std.proofs.lemmas.Option.{same_Some}
use Rattle.ja_base.specs.Clauses.{is_part}
use Rattle.ic3_frames.specs.Levels.{Entry, added, moved, is_blocked, is_blocked_by, takes_place}
use Rattle.ic3_frames.specs.Apart.{AreApart, are_alike}

abbrev Apart : Entry → Entry → Type 0
Apart a b = are_alike a.clause b.clause ≡ false

one_is_no_higher : (l level : ℕ) → nat_le l level ≡ false → nat_le level l ≡ false → ⊥
one_is_no_higher l level e f = grind (arith, nat_tests)

not_alike : (l level : ℕ) (a b : Bool) → (nat_le l level && b) ≡ false → (nat_le level l && a) ≡ false → (a && b) ≡ false
not_alike l level false b e f = refl
not_alike l level true false e f = refl
not_alike l level true true e f = absurd (one_is_no_higher l level (and_true (nat_le l level) e) (and_true (nat_le level l) f))
  where
    and_true : (t : Bool) → (t && true) ≡ false → t ≡ false
    and_true true e = e
    and_true false e = refl

module _ (clause : List ℕ) (level : ℕ) where
  abbrev new : Entry
  new = record { clause = clause; level = level }

  others : (kept : List Entry) → is_blocked kept level clause ≡ false
      → All (λ (e : Entry). Apart e new) (filter (λ e. not (takes_place new e)) kept)
  others [] free = All-nil (λ (e : Entry). Apart e new)
  others (e ∷ es) free =
      let parts = or_parts (is_blocked_by level clause e) (is_blocked es level clause) free in
      by_test (takes_place new e) refl parts.0 (others es parts.1)
    where
      rest : List Entry
      rest = filter (λ e. not (takes_place new e)) es

      by_test : (t : Bool) → takes_place new e ≡ t → is_blocked_by level clause e ≡ false
          → All (λ (e : Entry). Apart e new) rest → All (λ (e : Entry). Apart e new) (cond (not t) (e ∷ rest) rest)
      by_test true taken here h = h
      by_test false stays here h =
          All-cons (λ (e : Entry). Apart e new) e rest
          (not_alike e.level level (is_part e.clause clause) (is_part clause e.clause) stays here) h

  pub additions_stay_apart : (kept : List Entry) → AreApart kept → is_blocked kept level clause ≡ false
      → AreApart (added clause level kept)
  additions_stay_apart kept apart free =
      let rest : List Entry = filter (λ e. not (takes_place new e)) kept in
      all_pairs_push Apart rest new (AllPairs-filter Apart (λ e. not (takes_place new e)) kept apart)
      (λ k d within. others kept free k d within)

same_length : (kept : List Entry) (at : ℕ) (e : Entry) (level : ℕ) → length (moved kept at e level) ≡ length kept
same_length [] at e level = refl
same_length (x ∷ xs) zero e level = refl
same_length (x ∷ xs) (suc at) e level = ap suc (same_length xs at e level)

same_clause : (kept : List Entry) (at : ℕ) (e : Entry) (level : ℕ) → slice_get kept at ≡ Some e → (i : ℕ) (d : Entry)
    → (get_or (moved kept at e level) i d).clause ≡ (get_or kept i d).clause
same_clause [] at e level is i d = absurd cc
same_clause (x ∷ xs) zero e level is zero d = let same : x ≡ e = same_Some x e is in ap (λ (y : Entry). y.clause) (sym same)
same_clause (x ∷ xs) zero e level is (suc i) d = refl
same_clause (x ∷ xs) (suc at) e level is zero d = refl
same_clause (x ∷ xs) (suc at) e level is (suc i) d = same_clause xs at e level is i d

pub moves_stay_apart : (kept : List Entry) (at : ℕ) (e : Entry) (level : ℕ) → AreApart kept → slice_get kept at ≡ Some e
    → AreApart (moved kept at e level)
moves_stay_apart kept at e level apart is i j d before within =
    let first = same_clause kept at e level is i d in
    let second = same_clause kept at e level is j d in
    let length_is = same_length kept at e level in
    subst (λ a. are_alike a (get_or (moved kept at e level) j d).clause ≡ false) (sym first)
    (subst (λ b. are_alike (get_or kept i d).clause b ≡ false) (sym second) (apart i j d before (omega (arith, within, length_is))))
