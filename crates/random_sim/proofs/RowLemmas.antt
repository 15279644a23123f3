-- A list of rows with one row more.
use Rattle.std.proofs.Common.{◌≡◌, ℕ, ◌+◌, Bool, List, [], ◌∷◌, ◌++◌, length, All, ap, ◌∙◌, subst, sym}
use Rattle.std.proofs.lemmas.List.{length-append}
use Rattle.std.proofs.lemmas.List.Elements.{All-append, All-cons, All-nil}

-- there is one row more
pub one_more : (xs ys : List (List Bool)) (x : List Bool) (n : ℕ) → ys ≡ xs ++ x ∷ [] → length xs ≡ n → length ys ≡ n + 1
one_more xs ys x n e count = ap length e ∙ length-append xs (x ∷ []) ∙ ap (λ k. k + 1) count

-- and all have this width
pub all_wide : (xs ys : List (List Bool)) (x : List Bool) (width : ℕ) → ys ≡ xs ++ x ∷ [] → length x ≡ width
    → All (λ row. length row ≡ width) xs → All (λ row. length row ≡ width) ys
all_wide xs ys x width e wide all =
    let P = λ (row : List Bool). length row ≡ width in
    subst (All P) (sym e) (All-append P xs (x ∷ []) all (All-cons P x [] wide (All-nil P)))
