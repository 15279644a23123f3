-- Members of lists.
use Rattle.std.proofs.Common.{◌≡◌, ℕ, ◌+◌, ◌<◌, ◌≤◌, ◌⊎◌, List, [], ◌∷◌, ◌++◌, length, get_or, take, drop, zero, suc, Some, slice_get, inl, inr, refl, sym, subst, ◌∙◌, ap, arith}
use Rattle.std.specs.List.{Contains}
use Rattle.std.proofs.lemmas.List.{take_more, drop_more, get_or-take, get_or-drop, length-take, length-drop, take-append-drop}
use Rattle.std.proofs.lemmas.Option.{get_or_from_slice_get, slice_get_within}
use Rattle.std.proofs.lemmas.List.Elements.{Contains-push, Contains-push_cases, Contains-append_left}

pub Contains-here : (x : ℕ) (xs : List ℕ) → Contains (x ∷ xs) x
Contains-here x xs = (0, omega arith, refl)

pub Contains-there : (x m : ℕ) (xs : List ℕ) → Contains xs m → Contains (x ∷ xs) m
Contains-there x m xs h = (suc h.0, omega (arith, h.1), h.2)

pub Contains-cases : (x m : ℕ) (xs : List ℕ) → Contains (x ∷ xs) m → (x ≡ m) ⊎ Contains xs m
Contains-cases x m xs (zero, less, e) = inl e
Contains-cases x m xs (suc k, less, e) = inr (k, omega arith, e)

pub Contains-none : (m : ℕ) → Contains [] m → ⊥
Contains-none m h = omega (arith, h.1)

-- the first p + 1 of a list
pub take_next : (xs : List ℕ) (p l : ℕ) → slice_get xs p ≡ Some l → take (p + 1) xs ≡ take p xs ++ l ∷ []
take_next xs p l e =
    take_more xs p l (slice_get_within xs p l e)
    ∙ ap (λ k. take p xs ++ k ∷ []) (get_or_from_slice_get xs p l l e)

pub known_more : (xs : List ℕ) (p l m : ℕ) → slice_get xs p ≡ Some l → Contains (take (p + 1) xs) m
    → Contains (take p xs) m ⊎ (l ≡ m)
known_more xs p l m e h =
    let P : List ℕ → Type 0 = λ v. Contains v m in Contains-push_cases (take p xs) l m (subst P (take_next xs p l e) h)

pub known_less : (xs : List ℕ) (p l m : ℕ) → slice_get xs p ≡ Some l → Contains (take p xs) m → Contains (take (p + 1) xs) m
known_less xs p l m e h =
    let P : List ℕ → Type 0 = λ v. Contains v m in
    subst P (sym (take_next xs p l e)) (Contains-append_left (take p xs) (l ∷ []) m h)

pub known_here : (xs : List ℕ) (p l : ℕ) → slice_get xs p ≡ Some l → Contains (take (p + 1) xs) l
known_here xs p l e =
    let P : List ℕ → Type 0 = λ v. Contains v l in subst P (sym (take_next xs p l e)) (Contains-push (take p xs) l)

-- the rest from p on
pub drop_next : (xs : List ℕ) (p l : ℕ) → slice_get xs p ≡ Some l → drop p xs ≡ l ∷ drop (p + 1) xs
drop_next xs p l e =
    drop_more xs p l (slice_get_within xs p l e) ∙ ap (λ k. k ∷ drop (p + 1) xs) (get_or_from_slice_get xs p l l e)

pub from_here : (xs : List ℕ) (p l : ℕ) → slice_get xs p ≡ Some l → Contains (drop p xs) l
from_here xs p l e =
    let P : List ℕ → Type 0 = λ v. Contains v l in subst P (sym (drop_next xs p l e)) (Contains-here l (drop (p + 1) xs))

pub from_less : (xs : List ℕ) (p l m : ℕ) → slice_get xs p ≡ Some l → Contains (drop (p + 1) xs) m → Contains (drop p xs) m
from_less xs p l m e h =
    let P : List ℕ → Type 0 = λ v. Contains v m in
    subst P (sym (drop_next xs p l e)) (Contains-there l m (drop (p + 1) xs) h)

-- by places
pub taken_at : (xs : List ℕ) (p m : ℕ) → Contains (take p xs) m → (k : ℕ) × (k < p) × (k < length xs) × (get_or xs k m ≡ m)
taken_at xs p m h =
    let k : ℕ = h.0 in
    let less : k < p = omega (arith, h.1, length-take p xs) in
    (k, less, omega (arith, h.1, length-take p xs), sym (get_or-take p xs k m less) ∙ h.2)

pub dropped_at : (xs : List ℕ) (p m : ℕ) → Contains (drop p xs) m → (k : ℕ) × (p ≤ k) × (k < length xs) × (get_or xs k m ≡ m)
dropped_at xs p m h =
    let k : ℕ = h.0 in
    (p + k, omega arith, omega (arith, h.1, length-drop p xs), sym (get_or-drop p xs k m) ∙ h.2)

pub taken_is_on : (xs : List ℕ) (p m : ℕ) → Contains (take p xs) m → Contains xs m
taken_is_on xs p m h = let r = taken_at xs p m h in (r.0, r.2, r.3)

pub split_at : {X : Type 0} (xs : List X) (p : ℕ) (x : X) → slice_get xs p ≡ Some x → xs ≡ take p xs ++ x ∷ drop (p + 1) xs
split_at xs p x e =
    sym (take-append-drop p xs)
    ∙ ap (λ v. take p xs ++ v) (drop_more xs p x (slice_get_within xs p x e)
    ∙ ap (λ k. k ∷ drop (p + 1) xs) (get_or_from_slice_get xs p x x e))
