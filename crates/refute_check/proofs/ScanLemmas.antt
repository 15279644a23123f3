-- What one scan of a clause finds.
use Rattle.std.proofs.Common.{◌≡◌, ℕ, ◌&&◌, Bool, true, false, not, cond, List, [], ◌∷◌, refl}
use Rattle.ja_base.specs.Literals.{bit, negated}
use Rattle.refute_check.specs.declared.found.Found.TheVariants.{Forces, Other}
use Rattle.ja_base.specs.Trails.{open_lits}
use Rattle.refute_check.specs.Lines.{found_of, are_false}

-- no literal is left where each is false
no_lits : (row : List Bool) (lits : List ℕ) → are_false row lits ≡ true → open_lits row lits ≡ []
no_lits row [] h = refl
no_lits row (l ∷ ls) h = go (bit row (negated l)) (no_lits row ls) h
  where
    go : (b : Bool) → (are_false row ls ≡ true → open_lits row ls ≡ []) → (b && are_false row ls) ≡ true
        → cond (not b) (l ∷ open_lits row ls) (open_lits row ls) ≡ []
    go true later e = later e
    go false later e = cc

some_lits : (row : List Bool) (lits : List ℕ) → are_false row lits ≡ false
    → (m : ℕ) × (ms : List ℕ) × (open_lits row lits ≡ m ∷ ms)
some_lits row [] h = cc
some_lits row (l ∷ ls) h = go (bit row (negated l)) (some_lits row ls) h
  where
    go : (b : Bool)
        → (are_false row ls ≡ false → (m : ℕ) × (ms : List ℕ) × (open_lits row ls ≡ m ∷ ms))
        → (b && are_false row ls) ≡ false
        → (m : ℕ) × (ms : List ℕ) × (cond (not b) (l ∷ open_lits row ls) (open_lits row ls) ≡ m ∷ ms)
    go true later e = later e
    go false later e = (l, open_lits row ls, refl)

pub no_open : (row : List Bool) (l : ℕ) (lits : List ℕ) → bit row l ≡ false → are_false row lits ≡ true
    → found_of row (l ∷ open_lits row lits) ≡ Forces l
no_open row l lits free h =
    rw (no_lits row lits h, free) refl

pub some_open : (row : List Bool) (l : ℕ) (lits : List ℕ) → are_false row lits ≡ false
    → found_of row (l ∷ open_lits row lits) ≡ Other
some_open row l lits h = let e = some_lits row lits h in rw e.2 refl

pub true_open : (row : List Bool) (l : ℕ) (lits : List ℕ) → bit row l ≡ true → found_of row (l ∷ lits) ≡ Other
true_open row l [] h = rw h refl
true_open row l (m ∷ ms) h = refl
