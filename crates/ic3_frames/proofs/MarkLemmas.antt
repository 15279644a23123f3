-- Signatures, one literal further, and what they tell.
use Rattle.std.proofs.Common.{◌≡◌, ℕ, suc, zero, ◌*◌, ◌%◌, ◌^◌, ◌<◌, eqb, Bool, true, false, bit_and, bit_or, w64, List, [], ◌∷◌, ◌++◌, min, ⊎_elim, refl, sym, ap, ◌∙◌, arith}
use Rattle.std.specs.Prelude.{Contains, All}
use Rattle.std.specs.Int.{bit_at}
use Rattle.std.proofs.lemmas.Bool.{false_from_ne_true, eqb-true, eqb-false}
use Rattle.std.proofs.lemmas.Nat.Bits.{bit_at-zero, bit_at_and, bit_at-lt, bit_at_set_same, bit_at_set_other, same_from_bits}
use Rattle.std.proofs.lemmas.List.Elements.{All-contains, Contains-append_left, Contains-push, Contains-push_cases}
use Rattle.ja_base.specs.Clauses.{is_part}
use Rattle.ja_base.proofs.ClauseLemmas.{is_part_decides}
use Rattle.ic3_frames.specs.Marks.{HasPlace, IsMark}

pub IsMark-none : IsMark [] 0
IsMark-none = record {
  set = λ l has. absurd (omega (arith, has.1));
  only = λ i one. let wrong : 0 ≡ 1 = sym (bit_at-zero i) ∙ one in absurd cc;
}

-- the mark with the bit of one more literal
abbrev with_place : ℕ → ℕ → ℕ
with_place mark l = bit_or mark (1 * 2 ^ (l % 64) % 2 ^ 64)

place_is_within : (l : ℕ) → l % 64 < 64
place_is_within l = omega arith

module _ (lits : List ℕ) (mark l : ℕ) (h : IsMark lits mark) where
  stays_set : (m : ℕ) → Contains lits m → (b : Bool) → b ≡ eqb (m % 64) (l % 64) → bit_at (with_place mark l) (m % 64) ≡ 1
  stays_set m has true e =
      ap (bit_at (with_place mark l)) (eqb-true (m % 64) (l % 64) (sym e)) ∙ bit_at_set_same w64 mark (l % 64) (place_is_within l)
  stays_set m has false e =
      bit_at_set_other w64 mark (l % 64) (place_is_within l) (m % 64) (eqb-false (m % 64) (l % 64) (sym e)) ∙ h.set m has

  has_place : (i : ℕ) → bit_at (with_place mark l) i ≡ 1 → (b : Bool) → b ≡ eqb i (l % 64) → HasPlace (lits ++ l ∷ []) i
  has_place i one true e = record { lit = l; among = Contains-push lits l; place = sym (eqb-true i (l % 64) (sym e)) }
  has_place i one false e =
      let old = h.only i (sym (bit_at_set_other w64 mark (l % 64) (place_is_within l) i (eqb-false i (l % 64) (sym e))) ∙ one) in
      record { lit = old.lit; among = Contains-append_left lits (l ∷ []) old.lit old.among; place = old.place }

  pub IsMark-more : IsMark (lits ++ l ∷ []) (with_place mark l)
  IsMark-more = record {
    set = λ m has. ⊎_elim (λ (old : Contains lits m). stays_set m old (eqb (m % 64) (l % 64)) refl)
        (λ (new : l ≡ m). ap (λ k. bit_at (with_place mark l) (k % 64)) (sym new) ∙ bit_at_set_same w64 mark (l % 64) (place_is_within l))
        (Contains-push_cases lits l m has);
    only = λ i one. has_place i one (eqb i (l % 64)) refl;
  }

-- ---- what signatures tell

least_is_first : (a b : ℕ) → a < 2 → (a ≡ 1 → b ≡ 1) → min a b ≡ a
least_is_first zero b low h = omega arith
least_is_first (suc zero) b low h = omega (arith, h refl)
least_is_first (suc (suc a)) b low h = absurd (omega (arith, low))

marks_of_part : (part whole : List ℕ) (m n : ℕ) → IsMark part m → IsMark whole n → All (Contains whole) part → bit_and m n ≡ m
marks_of_part part whole m n g h among =
    same_from_bits (bit_and m n) m (λ i.
    bit_at_and m n i ∙ least_is_first (bit_at m i) (bit_at n i) (bit_at-lt m i) (λ one.
    let p = g.only i one in
    ap (bit_at n) (sym p.place) ∙ h.set p.lit (All-contains (Contains whole) part p.lit among p.among)))

pub told_by_marks : (part whole : List ℕ) (m n : ℕ) → IsMark part m → IsMark whole n → (bit_and m n ≡ m → ⊥)
    → eqb (bit_and m n) m ≡ is_part part whole
told_by_marks part whole m n g h differ =
    false_from_ne_true (eqb (bit_and m n) m) (λ t. differ (eqb-true (bit_and m n) m t))
    ∙ sym (false_from_ne_true (is_part part whole) (λ is. differ (marks_of_part part whole m n g h ((is_part_decides part whole).0 is))))
