-- A fact of each item of a list, of a list of lists, and of a range.
use Rattle.std.proofs.Common.{◌≡◌, ℕ, zero, suc, ◌+◌, ◌<◌, ◌≤◌, List, [], ◌∷◌, ◌++◌, Some, map, slice_get, refl, sym, subst, arith, inl, inr}
use Rattle.std.specs.List.{AllByRecursion, flat_map, range_with_len}
use Rattle.std.proofs.lemmas.Bool.{cases_order}
use Rattle.std.proofs.lemmas.List.Concat.{flat_map-cons}

module _ {X : Type 0} (P : X → Type 0) where
  pub each_left : (xs ys : List X) → AllByRecursion P (xs ++ ys) → AllByRecursion P xs
  each_left [] ys h = tt
  each_left (x ∷ xs) ys h = (h.0, each_left xs ys h.1)

  pub each_right : (xs ys : List X) → AllByRecursion P (xs ++ ys) → AllByRecursion P ys
  each_right [] ys h = h
  each_right (x ∷ xs) ys h = each_right xs ys h.1

  pub each_joined : (xs ys : List X) → AllByRecursion P xs → AllByRecursion P ys → AllByRecursion P (xs ++ ys)
  each_joined [] ys g h = h
  each_joined (x ∷ xs) ys g h = (g.0, each_joined xs ys g.1 h)

  pub each_at : (xs : List X) (k : ℕ) (x : X) → AllByRecursion P xs → slice_get xs k ≡ Some x → P x
  each_at [] k x h is = absurd cc
  each_at (y ∷ ys) zero x h is = let same : y ≡ x = cc in subst P same h.0
  each_at (y ∷ ys) (suc k) x h is = each_at ys k x h.1 is

  pub each_from_places : (xs : List X) → ((k : ℕ) (x : X) → slice_get xs k ≡ Some x → P x) → AllByRecursion P xs
  each_from_places [] h = tt
  each_from_places (x ∷ xs) h = (h 0 x refl, each_from_places xs (λ k y is. h (suc k) y is))

module _ {X Y : Type 0} (P : Y → Type 0) where
  pub each_mapped : (f : X → Y) (xs : List X) → AllByRecursion (λ x. P (f x)) xs → AllByRecursion P (map f xs)
  each_mapped f [] h = tt
  each_mapped f (x ∷ xs) h = (h.0, each_mapped f xs h.1)

  pub each_unmapped : (f : X → Y) (xs : List X) → AllByRecursion P (map f xs) → AllByRecursion (λ x. P (f x)) xs
  each_unmapped f [] h = tt
  each_unmapped f (x ∷ xs) h = (h.0, each_unmapped f xs h.1)

  pub each_flattened : (f : X → List Y) (xs : List X) → AllByRecursion (λ x. AllByRecursion P (f x)) xs
      → AllByRecursion P (flat_map f xs)
  each_flattened f [] h = tt
  each_flattened f (x ∷ xs) h = subst (AllByRecursion P) (sym (flat_map-cons f x xs))
      (each_joined P (f x) (flat_map f xs) h.0 (each_flattened f xs h.1))

  pub each_unflattened : (f : X → List Y) (xs : List X) → AllByRecursion P (flat_map f xs)
      → AllByRecursion (λ x. AllByRecursion P (f x)) xs
  each_unflattened f [] h = tt
  each_unflattened f (x ∷ xs) h =
      let g = subst (AllByRecursion P) (flat_map-cons f x xs) h in
      (each_left P (f x) (flat_map f xs) g, each_unflattened f xs (each_right P (f x) (flat_map f xs) g))

module _ (P : ℕ → Type 0) where
  pub each_in_range : (a n u : ℕ) → AllByRecursion P (range_with_len a n) → a ≤ u → u < a + n → P u
  each_in_range a zero u h low high = absurd (omega arith)
  each_in_range a (suc n) u h low high =
      elim (cases_order a u) [
        | inl same ↦ subst P same h.0
        | inr (inl below) ↦ each_in_range (a + 1) n u h.1 (omega arith) (omega arith)
        | inr (inr above) ↦ absurd (omega arith)
      ]

  pub each_of_range : (a n : ℕ) → ((u : ℕ) → a ≤ u → u < a + n → P u) → AllByRecursion P (range_with_len a n)
  each_of_range a zero h = tt
  each_of_range a
      (suc n) h = (h a (omega arith) (omega arith), each_of_range (a + 1) n (λ u low high. h u (omega arith) (omega arith)))
