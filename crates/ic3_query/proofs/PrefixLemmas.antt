-- Two lists, clause by clause.
use Rattle.std.proofs.Common.{◌≡◌, ℕ, ◌+◌, Some, List, [], ◌∷◌, ◌++◌, take, slice_get, sym, ap, ◌∙◌}
use Rattle.std.proofs.lemmas.Option.{get_or_from_slice_get, slice_get_within}
use Rattle.std.proofs.lemmas.List.{take_more}

pub taken_more : {X : Type 0} (xs : List X) (i : ℕ) (x : X) → slice_get xs i ≡ Some x → take (i + 1) xs ≡ take i xs ++ x ∷ []
taken_more {X} xs i x at =
    take_more xs i x (slice_get_within xs i x at)
    ∙ ap (λ (y : X). take i xs ++ y ∷ []) (get_or_from_slice_get xs i x x at)

pub taken_again : {X : Type 0} (xs ys : List X) (i : ℕ) (x y : X) → take i xs ≡ take i ys → slice_get xs i ≡ Some x
    → slice_get ys i ≡ Some y → x ≡ y → take (i + 1) xs ≡ take (i + 1) ys
taken_again {X} xs ys i x y h at_x at_y e =
    taken_more xs i x at_x ∙ ap (λ (l : List X). l ++ x ∷ []) h ∙ ap (λ (z : X). take i ys ++ z ∷ []) e
    ∙ sym (taken_more ys i y at_y)
