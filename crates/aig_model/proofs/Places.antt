-- Places in lists: after a push, and in lists whose numbers are apart.
use Rattle.std.proofs.Common.{◌≡◌, ◌≢◌, ℕ, zero, suc, ◌+◌, ◌<◌, List, [], ◌∷◌, ◌++◌, length, get_or, map, Some, slice_get, ◌⊎◌, inl, inr, ⊎_elim, refl, sym, ap, ◌∙◌, arith}
use Rattle.std.proofs.lemmas.Option.{get_or_from_slice_get, slice_get-get_or, slice_get_within}
use Rattle.std.proofs.lemmas.Bool.{cases_order}
use Rattle.aig_model.specs.Netlist.{AreApart}
use Rattle.aig_model.specs.Order.{Has}

pub get_left : {X : Type 0} (xs ys : List X) (i : ℕ) (x : X) → slice_get xs i ≡ Some x → slice_get (xs ++ ys) i ≡ Some x
get_left [] ys i x is = absurd (cc)
get_left (y ∷ xs) ys zero x is = is
get_left (y ∷ xs) ys (suc i) x is = get_left xs ys i x is

pub get_right : {X : Type 0} (xs ys : List X) (i : ℕ) (x : X) → slice_get ys i ≡ Some x
    → slice_get (xs ++ ys) (length xs + i) ≡ Some x
get_right [] ys i x is = let e : 0 + i ≡ i = omega arith in rw e is
get_right (y ∷ xs) ys i x is = let e : suc (length xs) + i ≡ suc (length xs + i) = omega arith in rw e (get_right xs ys i x is)

pub get_last : {X : Type 0} (xs : List X) (y : X) → slice_get (xs ++ y ∷ []) (length xs) ≡ Some y
get_last [] y = refl
get_last (x ∷ xs) y = get_last xs y

pub push_cases : {X : Type 0} (xs : List X) (y : X) (i : ℕ) (x : X) → slice_get (xs ++ y ∷ []) i ≡ Some x
    → (slice_get xs i ≡ Some x) ⊎ ((i ≡ length xs) × (y ≡ x))
push_cases [] y zero x is = inr (refl, cc)
push_cases [] y (suc i) x is = absurd (cc)
push_cases (z ∷ xs) y zero x is = inl is
push_cases (z ∷ xs) y (suc i) x is = ⊎_elim inl (λ h. inr (ap suc h.0, h.1)) (push_cases xs y i x is)

-- a place before the last one
pub push_within : {X : Type 0} (xs : List X) (y : X) (i : ℕ) (x : X) → i < length xs → slice_get (xs ++ y ∷ []) i ≡ Some x
    → slice_get xs i ≡ Some x
push_within xs y i x within is = ⊎_elim (λ old. old) (λ last. absurd (omega (arith, last.0))) (push_cases xs y i x is)

-- a place of two lists joined is one of the first or of the second
pub append_cases : {X : Type 0} (xs ys : List X) (i : ℕ) (x : X) → slice_get (xs ++ ys) i ≡ Some x
    → (slice_get xs i ≡ Some x) ⊎ ((j : ℕ) × (i ≡ length xs + j) × (slice_get ys j ≡ Some x))
append_cases [] ys i x is = inr (i, omega arith, is)
append_cases (z ∷ xs) ys zero x is = inl is
append_cases (z ∷ xs) ys (suc i) x is = ⊎_elim inl (λ h. inr (h.0, omega (arith, h.1), h.2)) (append_cases xs ys i x is)

pub get_map : {X Y : Type 0} (f : X → Y) (xs : List X) (i : ℕ) (x : X) → slice_get xs i ≡ Some x
    → slice_get (map f xs) i ≡ Some (f x)
get_map f [] i x is = absurd (cc)
get_map f (y ∷ xs) zero x is = let e : y ≡ x = cc in ap (λ z. Some (f z)) e
get_map f (y ∷ xs) (suc i) x is = get_map f xs i x is

-- what stands in a list that f made
pub map_cases : {X Y : Type 0} (f : X → Y) (xs : List X) (i : ℕ) (y : Y) → slice_get (map f xs) i ≡ Some y
    → (x : X) × (slice_get xs i ≡ Some x) × (f x ≡ y)
map_cases f [] i y is = absurd (cc)
map_cases f (x ∷ xs) zero y is = (x, refl, cc)
map_cases f (x ∷ xs) (suc i) y is = map_cases f xs i y is

-- numbers at two places of such a list differ
pub apart_at : (xs : List ℕ) (i j a b : ℕ) → AreApart xs → i < j → slice_get xs i ≡ Some a → slice_get xs j ≡ Some b → a ≢ b
apart_at xs i j a b apart lt at_i at_j e =
    apart i j lt (slice_get_within xs j b at_j) (get_or_from_slice_get xs i a 0 at_i ∙ e
    ∙ sym (get_or_from_slice_get xs j b 0 at_j))

-- the places at which a number stands are one
pub one_place : (xs : List ℕ) (i j a b : ℕ) → AreApart xs → slice_get xs i ≡ Some a → slice_get xs j ≡ Some b → a ≡ b → i ≡ j
one_place xs i j a b apart at_i at_j e =
    ⊎_elim (λ same. same)
    (⊎_elim (λ lt. absurd (apart_at xs i j a b apart lt at_i at_j e))
    (λ gt. absurd (apart_at xs j i b a apart gt at_j at_i (sym e)))) (cases_order i j)

-- places with their numbers show that a list is apart
pub AreApart-from_at : (xs : List ℕ) → ((i j a b : ℕ) → i < j → slice_get xs i ≡ Some a → slice_get xs j ≡ Some b → a ≢ b)
    → AreApart xs
AreApart-from_at xs at i j lt within =
    at i j (get_or xs i 0) (get_or xs j 0) lt (slice_get-get_or xs i 0 (omega arith)) (slice_get-get_or xs j 0 within)

pub AreApart-push : (xs : List ℕ) (y : ℕ) → AreApart xs → (Has xs y → ⊥) → AreApart (xs ++ y ∷ [])
AreApart-push xs y apart new = AreApart-from_at (xs ++ y ∷ []) (λ i j a b lt at_i at_j.
    ⊎_elim
    (λ in_j. ⊎_elim (λ in_i. apart_at xs i j a b apart lt in_i in_j)
    (λ last. absurd (let w = slice_get_within xs j b in_j in omega (arith, last.0))) (push_cases xs y i a at_i))
    (λ last_j. ⊎_elim (λ in_i e. new (i, in_i ∙ ap Some (e ∙ sym last_j.1))) (λ last. absurd (omega (arith, last.0, last_j.0)))
    (push_cases xs y i a at_i))
    (push_cases xs y j b at_j))

pub AreApart-front : (xs ys : List ℕ) → AreApart (xs ++ ys) → AreApart xs
AreApart-front xs ys apart = AreApart-from_at xs
    (λ i j a b lt at_i at_j. apart_at (xs ++ ys) i j a b apart lt (get_left xs ys i a at_i) (get_left xs ys j b at_j))

-- the last number stands nowhere before
pub last_is_new : (xs : List ℕ) (y : ℕ) → AreApart (xs ++ y ∷ []) → Has xs y → ⊥
last_is_new xs y apart has =
    apart_at (xs ++ y ∷ []) has.0 (length xs) y y apart (slice_get_within xs has.0 y has.1) (get_left xs (y ∷ []) has.0 y has.1)
    (get_last xs y) refl
