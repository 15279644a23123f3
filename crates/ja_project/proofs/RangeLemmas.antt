-- Lists that a loop makes, over a list or over a range.
use Rattle.std.proofs.Common.{◌≡◌, ℕ, zero, suc, ◌+◌, ◌≤◌, List, [], ◌∷◌, ◌++◌, Some, length, map, take, slice_get, sym, ap, ◌∙◌, append_assoc, arith, add-one}
use Rattle.std.specs.List.{flat_map, range_with_len}
use Rattle.std.proofs.Math.Seq.{take-suc}
use Rattle.std.proofs.lemmas.List.{append-nil, map-append, take_all}
use Rattle.std.proofs.lemmas.List.Concat.{flat_map-cons}
use Rattle.std.proofs.lemmas.Grind.{flat_map-append}
use Rattle.std.proofs.lemmas.Option.{get_or_from_slice_get, slice_get_within}

range_more : (a n : ℕ) → range_with_len a (suc n) ≡ range_with_len a n ++ (a + n) ∷ []
range_more a zero = let same : a ≡ a + 0 = omega arith in ap (λ (k : ℕ). k ∷ []) same
range_more a (suc n) =
    let same : a + 1 + n ≡ a + suc n = omega arith in
    ap (λ (xs : List ℕ). a ∷ xs) (range_more (a + 1) n ∙ ap (λ (k : ℕ). range_with_len (a + 1) n ++ k ∷ []) same)

-- one more number of the range, of which u is the next
pub flat_range_more : {X : Type 0} (f : ℕ → List X) (before now next : List X) (a n m u : ℕ) → m ≡ suc n → u ≡ a + n
    → now ≡ before ++ flat_map f (range_with_len a n) → next ≡ now ++ f u
    → next ≡ before ++ flat_map f (range_with_len a m)
flat_range_more {X} f before now next a n m u e is so_far made =
    let one : flat_map f (u ∷ []) ≡ f u = flat_map-cons f u [] ∙ append-nil (f u) in
    let all : flat_map f (range_with_len a m) ≡ flat_map f (range_with_len a n) ++ f u
    = ap (λ (k : ℕ). flat_map f (range_with_len a k)) e
    ∙ ap (flat_map f) (range_more a n ∙ ap (λ (k : ℕ). range_with_len a n ++ k ∷ []) (sym is))
    ∙ flat_map-append f (range_with_len a n) (u ∷ []) ∙ ap (λ (xs : List X). flat_map f (range_with_len a n) ++ xs) one in
    made ∙ ap (λ (xs : List X). xs ++ f u) so_far ∙ append_assoc before (flat_map f (range_with_len a n)) (f u)
    ∙ ap (λ (xs : List X). before ++ xs) (sym all)

take_more : {A : Type 0} (xs : List A) (i : ℕ) (x : A) → slice_get xs i ≡ Some x → take (i + 1) xs ≡ take i xs ++ x ∷ []
take_more {A} xs i x is =
    ap (λ (k : ℕ). take k xs) (add-one i) ∙ take-suc xs i x (slice_get_within xs i x is)
    ∙ ap (λ (y : A). take i xs ++ y ∷ []) (get_or_from_slice_get xs i x x is)

module _ {A X : Type 0} (xs : List A) (before : List X) where
  -- what one more item makes
  pub flat_more : (f : A → List X) (i : ℕ) (x : A) (now next : List X) → slice_get xs i ≡ Some x
      → now ≡ before ++ flat_map f (take i xs) → next ≡ now ++ f x
      → next ≡ before ++ flat_map f (take (i + 1) xs)
  flat_more f i x now next is so_far made =
      let one : flat_map f (x ∷ []) ≡ f x = flat_map-cons f x [] ∙ append-nil (f x) in
      let all : flat_map f (take (i + 1) xs) ≡ flat_map f (take i xs) ++ f x
      = ap (flat_map f) (take_more xs i x is) ∙ flat_map-append f (take i xs) (x ∷ [])
      ∙ ap (λ (ys : List X). flat_map f (take i xs) ++ ys) one in
      made ∙ ap (λ (ys : List X). ys ++ f x) so_far ∙ append_assoc before (flat_map f (take i xs)) (f x)
      ∙ ap (λ (ys : List X). before ++ ys) (sym all)

  pub flat_all : (f : A → List X) (i : ℕ) (now : List X) → length xs ≤ i → now ≡ before ++ flat_map f (take i xs)
      → now ≡ before ++ flat_map f xs
  flat_all f i now end so_far = so_far ∙ ap (λ (ys : List A). before ++ flat_map f ys) (take_all i xs end)

  pub map_more : (f : A → X) (i : ℕ) (x : A) (now next : List X) → slice_get xs i ≡ Some x → now ≡ before ++ map f (take i xs)
      → next ≡ now ++ f x ∷ []
      → next ≡ before ++ map f (take (i + 1) xs)
  map_more f i x now next is so_far made =
      let all : map f (take (i + 1) xs) ≡ map f (take i xs) ++ f x ∷ [] = ap (map f) (take_more xs i x is)
      ∙ map-append f (take i xs) (x ∷ []) in
      made ∙ ap (λ (ys : List X). ys ++ f x ∷ []) so_far ∙ append_assoc before (map f (take i xs)) (f x ∷ [])
      ∙ ap (λ (ys : List X). before ++ ys) (sym all)

  pub map_all : (f : A → X) (i : ℕ) (now : List X) → length xs ≤ i → now ≡ before ++ map f (take i xs) → now ≡ before ++ map f xs
  map_all f i now end so_far = so_far ∙ ap (λ (ys : List A). before ++ map f ys) (take_all i xs end)
