-- The row of variables that are defined so far, against lists in which no variable comes twice.
use Rattle.std.proofs.Common.{◌≡◌, ◌≢◌, ℕ, zero, suc, ◌<◌, Bool, true, false, List, [], ◌∷◌, ◌++◌, length, set, refl, sym, ap, ◌∙◌, inl, inr, arith, get_or-set_other, get_or-set_same}
use Rattle.std.specs.Prelude.{slice_index}
use Rattle.std.specs.List.{AllByRecursion}
use Rattle.std.proofs.lemmas.List.{length-set}
use Rattle.std.proofs.lemmas.Bool.{cases_eq}
use Rattle.ja_base.specs.Literals.{bit}

-- the row in which these variables are set too
abbrev pub marked : List Bool → List ℕ → List Bool
marked seen [] = seen
marked seen (v ∷ vs) = marked (set seen v true) vs

-- none of them is set in the row, and none comes twice
abbrev pub AreFresh : List Bool → List ℕ → Type 0
AreFresh seen [] = Unit {0}
AreFresh seen (v ∷ vs) = (bit seen v ≡ false) × AreFresh (set seen v true) vs

pub fresh_join : (seen : List Bool) (us vs : List ℕ) → AreFresh seen us → AreFresh (marked seen us) vs → AreFresh seen (us ++ vs)
fresh_join seen [] vs g h = h
fresh_join seen (u ∷ us) vs g h = (g.0, fresh_join (set seen u true) us vs g.1 h)

pub fresh_front : (seen : List Bool) (us vs : List ℕ) → AreFresh seen (us ++ vs) → AreFresh seen us
fresh_front seen [] vs h = tt
fresh_front seen (u ∷ us) vs h = (h.0, fresh_front (set seen u true) us vs h.1)

pub fresh_back : (seen : List Bool) (us vs : List ℕ) → AreFresh seen (us ++ vs) → AreFresh (marked seen us) vs
fresh_back seen [] vs h = h
fresh_back seen (u ∷ us) vs h = fresh_back (set seen u true) us vs h.1

pub marked-append : (seen : List Bool) (us vs : List ℕ) → marked seen (us ++ vs) ≡ marked (marked seen us) vs
marked-append seen [] vs = refl
marked-append seen (u ∷ us) vs = marked-append (set seen u true) us vs

-- ---- fresh variables come once

bit_set : (seen : List Bool) (v : ℕ) → v < length seen → bit (set seen v true) v ≡ true
bit_set seen v h = get_or-set_same seen v true false h

bit_other : (seen : List Bool) (v u : ℕ) → u ≢ v → bit (set seen v true) u ≡ bit seen u
bit_other seen v u h = get_or-set_other seen v u true false h

-- what was set stays set
bit_kept : (seen : List Bool) (v u : ℕ) → v < length seen → bit seen u ≡ true → bit (set seen v true) u ≡ true
bit_kept seen v u h e =
    elim (cases_eq u v) [
      | inl same ↦ ap (λ (k : ℕ). bit (set seen v true) k) same ∙ bit_set seen v h
      | inr ne ↦ bit_other seen v u ne ∙ e
    ]

-- a variable that is set does not come again
fresh_misses : (n : ℕ) (seen : List Bool) (vs : List ℕ) (k : ℕ) → length seen ≡ n → AreFresh seen vs
    → AllByRecursion (λ v. v < n) vs → k < length vs → bit seen (slice_index vs k) ≡ true → ⊥
fresh_misses n seen [] k len fresh within lt e = absurd (omega arith)
fresh_misses n seen (v ∷ vs) zero len fresh within lt e = absurd (cc (fresh.0, e))
fresh_misses n seen (v ∷ vs) (suc k) len fresh within lt e =
    fresh_misses n (set seen v true) vs k (length-set seen v true ∙ len) fresh.1 within.1 (omega arith)
    (bit_kept seen v (slice_index vs k) (omega (arith, within.0)) e)

pub fresh_apart : (n : ℕ) (seen : List Bool) (vs : List ℕ) → length seen ≡ n → AreFresh seen vs → AllByRecursion (λ v. v < n) vs
    → (i j : ℕ) → i < j → j < length vs → slice_index vs i ≡ slice_index vs j → ⊥
fresh_apart n seen [] len fresh within i j lt le e = absurd (omega arith)
fresh_apart n seen (v ∷ vs) len fresh within i zero lt le e = absurd (omega arith)
fresh_apart n seen (v ∷ vs) len fresh within zero (suc j) lt le e =
    fresh_misses n (set seen v true) vs j (length-set seen v true ∙ len) fresh.1 within.1 (omega arith)
    (ap (λ (k : ℕ). bit (set seen v true) k) (sym e) ∙ bit_set seen v (omega (arith, within.0)))
fresh_apart n seen (v ∷ vs) len fresh within (suc i) (suc j) lt le e =
    fresh_apart n (set seen v true) vs (length-set seen v true ∙ len) fresh.1 within.1 i j (omega arith) (omega arith) e

-- ---- variables that come once are fresh

pub apart_fresh : (seen : List Bool) (vs : List ℕ) → ((k : ℕ) → k < length vs → bit seen (slice_index vs k) ≡ false)
    → ((i j : ℕ) → i < j → j < length vs → slice_index vs i ≡ slice_index vs j → ⊥) → AreFresh seen vs
apart_fresh seen [] clear apart = tt
apart_fresh seen (v ∷ vs) clear apart = (
  clear 0 (omega arith),
  apart_fresh (set seen v true) vs
      (λ k lt. let ne : slice_index vs k ≢ v = λ e. apart 0 (suc k) (omega arith) (omega arith) (sym e) in bit_other seen v
      (slice_index vs k) ne ∙ clear (suc k) (omega arith))
      (λ i j lt le e. apart (suc i) (suc j) (omega arith) (omega arith) e),
)
