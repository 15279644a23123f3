-- Rows and lists that are made item by item.
use Rattle.std.proofs.Common.{◌≡◌, ℕ, suc, zero, ◌+◌, Bool, List, [], ◌∷◌, ◌++◌, length, map, take, slice_get, Some, refl, ap, ◌∙◌, arith}
use Rattle.ja_base.specs.Literals.{bit, variable}

-- a row with the bit of each literal's variable
pub made_of_inputs : (lits : List ℕ) (values row : List Bool) → length row ≡ length lits
    → ((k l : ℕ) → slice_get lits k ≡ Some l → bit row k ≡ bit values (variable l)) → row ≡ map (bit values) (map variable lits)
made_of_inputs [] values [] width each = refl
made_of_inputs [] values (b ∷ bs) width each = absurd (omega (arith, width))
made_of_inputs (l ∷ ls) values [] width each = absurd (omega (arith, width))
made_of_inputs (l ∷ ls) values (b ∷ bs) width each =
    ap (λ c. c ∷ bs) (each 0 l refl)
    ∙ ap (λ (r : List Bool). bit values (variable l) ∷ r)
    (made_of_inputs ls values bs (omega (arith, width)) (λ k m is. each (suc k) m is))

-- one item more of a list that is mapped from the front
pub mapped_more : {X Y : Type 0} (f : X → Y) (xs : List X) (n : ℕ) (x : X) → slice_get xs n ≡ Some x
    → map f (take (n + 1) xs) ≡ map f (take n xs) ++ f x ∷ []
mapped_more f [] n x is = absurd cc
mapped_more f (y ∷ xs) zero x is = let same : y ≡ x = cc in ap (λ z. f z ∷ []) same
mapped_more f (y ∷ xs) (suc n) x is =
    let e : suc n + 1 ≡ suc (n + 1) = omega arith in
    rw e (ap (λ zs. f y ∷ zs) (mapped_more f xs n x is))
