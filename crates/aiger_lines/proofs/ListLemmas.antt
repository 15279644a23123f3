-- What holds of each element of a list.
use Rattle.std.proofs.Common.{◌≡◌, ℕ, zero, suc, List, [], ◌∷◌, ◌++◌, map, Some, refl, subst}
use Rattle.std.specs.Prelude.{slice_get}
use Rattle.std.specs.List.{AllByRecursion}
use Rattle.std.proofs.lemmas.Option.{same_Some}

pub all_join : {X : Type 0} (P : X → Type 0) (xs ys : List X) → AllByRecursion P xs → AllByRecursion P ys
    → AllByRecursion P (xs ++ ys)
all_join P [] ys g h = h
all_join P (x ∷ xs) ys g h = (g.0, all_join P xs ys g.1 h)

pub all_front : {X : Type 0} (P : X → Type 0) (xs ys : List X) → AllByRecursion P (xs ++ ys) → AllByRecursion P xs
all_front P [] ys h = tt
all_front P (x ∷ xs) ys h = (h.0, all_front P xs ys h.1)

pub all_back : {X : Type 0} (P : X → Type 0) (xs ys : List X) → AllByRecursion P (xs ++ ys) → AllByRecursion P ys
all_back P [] ys h = h
all_back P (x ∷ xs) ys h = all_back P xs ys h.1

-- as it is said by places
pub all_at : {X : Type 0} (P : X → Type 0) (xs : List X) → AllByRecursion P xs → (k : ℕ) (x : X) → slice_get xs k ≡ Some x → P x
all_at P [] h k x e = absurd cc
all_at P (y ∷ ys) h zero x e = subst P (same_Some y x e) h.0
all_at P (y ∷ ys) h (suc k) x e = all_at P ys h.1 k x e

pub all_from_at : {X : Type 0} (P : X → Type 0) (xs : List X) → ((k : ℕ) (x : X) → slice_get xs k ≡ Some x → P x)
    → AllByRecursion P xs
all_from_at P [] h = tt
all_from_at P (y ∷ ys) h = (h 0 y refl, all_from_at P ys (λ k x e. h (suc k) x e))

pub all_weaker : {X : Type 0} (P Q : X → Type 0) → ((x : X) → P x → Q x) → (xs : List X) → AllByRecursion P xs
    → AllByRecursion Q xs
all_weaker P Q f [] h = tt
all_weaker P Q f (x ∷ xs) h = (f x h.0, all_weaker P Q f xs h.1)

pub all_with : {X : Type 0} (P Q R : X → Type 0) → ((x : X) → P x → Q x → R x) → (xs : List X) → AllByRecursion P xs
    → AllByRecursion Q xs → AllByRecursion R xs
all_with P Q R f [] g h = tt
all_with P Q R f (x ∷ xs) g h = (f x g.0 h.0, all_with P Q R f xs g.1 h.1)

-- what holds of each value of f
pub all_mapped : {X Y : Type 0} (f : X → Y) (P : X → Type 0) (Q : Y → Type 0) → ((x : X) → P x → Q (f x)) → (xs : List X)
    → AllByRecursion P xs → AllByRecursion Q (map f xs)
all_mapped f P Q g [] h = tt
all_mapped f P Q g (x ∷ xs) h = (g x h.0, all_mapped f P Q g xs h.1)

pub all_unmapped : {X Y : Type 0} (f : X → Y) (Q : Y → Type 0) (xs : List X) → AllByRecursion Q (map f xs)
    → AllByRecursion (λ x. Q (f x)) xs
all_unmapped f Q [] h = tt
all_unmapped f Q (x ∷ xs) h = (h.0, all_unmapped f Q xs h.1)
