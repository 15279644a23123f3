-- Rows of bits of which some are set, entries that a list has, and elements two by two.
use Rattle.std.proofs.Common.{◌≡◌, ◌≢◌, ℕ, zero, suc, ◌<◌, ◌⊎◌, ◌↔◌, inl, inr, Bool, true, false, cond, eqb, List, [], ◌∷◌, length, set, refl, sym, ap, ◌∙◌, arith, eqb-true, get_or-set_same, get_or-set_other}
use Rattle.std.specs.Prelude.{All, AllPairs, Contains}
use Rattle.std.proofs.lemmas.Bool.{eqb-false, false≢true}
use Rattle.ja_base.specs.Literals.{bit}

-- ---- elements of a list

pub Contains-cases : {X : Type 0} (x y : X) (xs : List X) → Contains (x ∷ xs) y → (x ≡ y) ⊎ Contains xs y
Contains-cases x y xs (zero, within, is) = inl is
Contains-cases x y xs (suc k, within, is) = inr (k, omega arith, is)

pub Contains-first : {X : Type 0} (x y : X) (xs : List X) → x ≡ y → Contains (x ∷ xs) y
Contains-first x y xs same = (0, omega arith, same)

pub Contains-others : {X : Type 0} (x y : X) (xs : List X) → Contains xs y → Contains (x ∷ xs) y
Contains-others x y xs (k, within, is) = (suc k, omega arith, is)

pub nothing_in_none : {X : Type 0} (y : X) → Contains [] y → ⊥
nothing_in_none y (k, within, is) = absurd (omega arith)

module _ {X : Type 0} (R : X → X → Type 0) where
  pub AllPairs-none : AllPairs R []
  AllPairs-none i j d lt within = absurd (omega arith)

  pub AllPairs-cons : (x : X) (xs : List X) → All (R x) xs → AllPairs R xs → AllPairs R (x ∷ xs)
  AllPairs-cons x xs each pairs zero zero d lt within = absurd (omega arith)
  AllPairs-cons x xs each pairs zero (suc j) d lt within = each j d (omega arith)
  AllPairs-cons x xs each pairs (suc i) zero d lt within = absurd (omega arith)
  AllPairs-cons x xs each pairs (suc i) (suc j) d lt within = pairs i j d (omega arith) (omega arith)

  pub AllPairs-first : (x : X) (xs : List X) → AllPairs R (x ∷ xs) → All (R x) xs
  AllPairs-first x xs pairs j d within = pairs 0 (suc j) d (omega arith) (omega arith)

  pub AllPairs-others : (x : X) (xs : List X) → AllPairs R (x ∷ xs) → AllPairs R xs
  AllPairs-others x xs pairs i j d lt within = pairs (suc i) (suc j) d (omega arith) (omega arith)

-- ---- bits

pub same_number : (p q : ℕ) → (p ≡ q) ⊎ (p ≢ q)
same_number p q = by_test (eqb p q) refl
  where
    by_test : (t : Bool) → eqb p q ≡ t → (p ≡ q) ⊎ (p ≢ q)
    by_test true e = inl (eqb-true p q e)
    by_test false e = inr (eqb-false p q e)

other : (row : List Bool) (p q : ℕ) (b : Bool) → p ≢ q → bit (set row p b) q ≡ bit row q
other row p q b ne = get_or-set_other row p q b false (λ e. ne (sym e))

-- a bit that is 0 where one was set is another one
pub unset : (row : List Bool) (p q : ℕ) → p < length row → bit (set row p true) q ≡ false → (p ≢ q) × (bit row q ≡ false)
unset row p q within h =
    let ne : p ≢ q = λ same. false≢true
    (sym h ∙ ap (bit (set row p true)) (sym same) ∙ get_or-set_same row p true false within) in
    (ne, sym (other row p q true ne) ∙ h)

pub unset_again : (row : List Bool) (p q : ℕ) → p ≢ q → bit row q ≡ false → bit (set row p true) q ≡ false
unset_again row p q ne h = other row p q true ne ∙ h

-- the row, with this bit cleared unless it is to stay
abbrev pub cleared : Bool → List Bool → ℕ → List Bool
cleared stays row p = cond stays row (set row p false)

pub cleared_takes : (stays : Bool) (row : List Bool) (p q : ℕ) → bit (cleared stays row p) q ≡ false → (bit row q ≡ false)
    ⊎ ((p ≡ q) × (stays ≡ false))
cleared_takes true row p q h = inl h
cleared_takes false row p q h = elim
    (same_number p q) [ inl same ↦ inr (same, refl) | inr ne ↦ inl (sym (other row p q false ne) ∙ h) ]

pub cleared_again : (stays : Bool) (row : List Bool) (p q : ℕ) → p < length row → (bit row q ≡ false)
    ⊎ ((p ≡ q) × (stays ≡ false)) → bit (cleared stays row p) q ≡ false
cleared_again true row p q within (inl h) = h
cleared_again true row p q within (inr h) = absurd (false≢true (sym h.1))
cleared_again false row p q within (inl h) = elim (same_number p q) [
  | inl same ↦ ap (bit (set row p false)) (sym same) ∙ get_or-set_same row p false false within
  | inr ne ↦ other row p q false ne ∙ h
]
cleared_again false row p q within (inr h) = ap (bit (set row p false)) (sym h.0) ∙ get_or-set_same row p false false within

same_bit : (b c : Bool) → (b ≡ false → c ≡ false) → (c ≡ false → b ≡ false) → b ≡ c
same_bit true true to from = refl
same_bit true false to from = from refl
same_bit false true to from = sym (to refl)
same_bit false false to from = refl

-- rows of one length with 0 at the same places are one row
pub same_rows : (xs ys : List Bool) → length xs ≡ length ys → ((i : ℕ) → i < length xs → (bit xs i ≡ false) ↔ (bit ys i ≡ false))
    → xs ≡ ys
same_rows [] [] len each = refl
same_rows [] (y ∷ ys) len each = absurd (omega arith)
same_rows (x ∷ xs) [] len each = absurd (omega arith)
same_rows (x ∷ xs) (y ∷ ys) len each =
    let first = each 0 (omega arith) in
    let head : x ≡ y = same_bit x y first.0 first.1 in
    let tail : xs ≡ ys = same_rows xs ys (omega arith) (λ i within. each (suc i) (omega arith)) in
    ap (λ (b : Bool). b ∷ xs) head ∙ ap (λ (bs : List Bool). y ∷ bs) tail
