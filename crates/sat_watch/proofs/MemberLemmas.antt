-- Members of lists.
use Rattle.std.proofs.Common.{◌≡◌, ◌≢◌, ℕ, ◌+◌, ◌<◌, ◌≤◌, ◌⊎◌, Bool, true, false, List, [], ◌∷◌, ◌++◌, length, get_or, set, take, inl, inr, refl, sym, subst, ◌∙◌, ap, arith}
use Rattle.std.specs.List.{Contains}
use Rattle.std.proofs.lemmas.Bool.{both_ways}
use Rattle.std.proofs.lemmas.Bool.Decides.{eqb_tells}
use Rattle.std.proofs.lemmas.List.{length-set, get_or-set_other, length-take, get_or-take, take_more}
use Rattle.std.proofs.lemmas.List.Elements.{Contains-push_cases}
use Rattle.ja_base.specs.Clauses.{has_literal}
use Rattle.ja_base.proofs.ClauseLemmas.{has_literal_decides}

-- an element is replaced: the others stay
set_keeps : (xs : List ℕ) (at x k : ℕ) → Contains xs k → get_or xs at k ≢ k → Contains (set xs at x) k
set_keeps xs at x k has off =
    elim (eqb_tells has.0 at) [
      | inl same ↦ absurd (off (ap (λ n. get_or xs n k) (sym same.1) ∙ has.2))
      | inr other ↦ (has.0, omega (arith, has.1, length-set xs at x), get_or-set_other xs at has.0 x k other.1 ∙ has.2)
    ]

-- one of the first n + 1 is the last of them, or stands before
pub taken_cases : (xs : List ℕ) (n x m : ℕ) → n < length xs → get_or xs n x ≡ x → Contains (take (n + 1) xs) m
    → Contains (take n xs) m ⊎ (x ≡ m)
taken_cases xs n x m less e has =
    let P : List ℕ → Type 0 = λ v. Contains v m in
    Contains-push_cases (take n xs) x m (subst P (take_more xs n x less ∙ ap (λ k. take n xs ++ k ∷ []) e) has)

pub taken_all : (xs : List ℕ) (n m : ℕ) → length xs ≤ n → Contains xs m → Contains (take n xs) m
taken_all xs n m past has =
    (has.0, omega (arith, has.1, length-take n xs, past), get_or-take n xs has.0 m (omega (arith, has.1, past)) ∙ has.2)

pub is_in : (xs : List ℕ) (k : ℕ) → Contains xs k ⊎ (Contains xs k → ⊥)
is_in xs k = go (has_literal xs k) refl
  where
    go : (b : Bool) → has_literal xs k ≡ b → Contains xs k ⊎ (Contains xs k → ⊥)
    go true e = inl ((has_literal_decides xs k).0 e)
    go false e = inr (λ h. both_ways (has_literal xs k) e ((has_literal_decides xs k).1 h))
