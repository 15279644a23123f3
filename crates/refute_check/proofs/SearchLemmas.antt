-- Literals that ascend, sought by halves.
use Rattle.std.proofs.Common.{◌≡◌, ℕ, ◌<◌, ◌≤◌, Bool, true, false, List, length, get_or, Result, Ok, Err, MatchResult, ltb, nat_cmp, refl, sym, subst, ◌∙◌, arith}
use Rattle.std.specs.Bool.{Decides}
use Rattle.std.specs.Result.{is_ok}
use Rattle.std.specs.List.{Contains}
use Rattle.std.specs.List.Sorted.{IsStrictlyIncreasing, IsBinarySearchResult}
use Rattle.std.proofs.lemmas.Bool.{ltb-true, ltb-false}
use Rattle.std.proofs.lemmas.List.{get_or_default}
use Rattle.std.proofs.lemmas.List.Elements.{Contains-get_or}
use Rattle.std.proofs.lemmas.List.Kept.{AllPairs-from_increasing}
use Rattle.std.proofs.lemmas.List.Sorted.{searched}
use Rattle.ja_base.specs.Clauses.{has_literal}
use Rattle.ja_base.proofs.ClauseLemmas.{has_literal_decides}

rises : (xs : List ℕ) → IsStrictlyIncreasing xs → (i j : ℕ) → i ≤ j → j < length xs → get_or xs i 0 ≤ get_or xs j 0
rises xs up i j before within = by_test (ltb i j) refl
  where
    by_test : (b : Bool) → ltb i j ≡ b → get_or xs i 0 ≤ get_or xs j 0
    by_test true e = omega (arith, AllPairs-from_increasing xs up i j 0 (ltb-true i j e) within)
    by_test false e =
        let same : i ≡ j = omega (arith, before, ltb-false i j e) in
        subst (λ k. get_or xs i 0 ≤ get_or xs k 0) same (omega arith)

absent : (xs : List ℕ) (x at : ℕ) → ((k : ℕ) → k < at → get_or xs k 0 < x)
    → ((k : ℕ) → at ≤ k → k < length xs → x < get_or xs k 0) → Contains xs x → ⊥
absent xs x at below above found = by_test (ltb found.0 at) refl
  where
    is : get_or xs found.0 0 ≡ x
    is = get_or_default xs found.0 0 x found.1 ∙ found.2

    by_test : (b : Bool) → ltb found.0 at ≡ b → ⊥
    by_test true e = absurd (omega (arith, is, below found.0 (ltb-true found.0 at e)))
    by_test false e = absurd (omega (arith, is, above found.0 (ltb-false found.0 at e) found.1))

-- what the search tells, where it ends
abbrev Tells : List ℕ → ℕ → Result ℕ ℕ → Type 0
Tells xs x r = MatchResult r
    (λ i. (i < length xs) × (get_or xs i 0 ≡ x))
    (λ i. (i ≤ length xs) × ((k : ℕ) → k < i → get_or xs k 0 < x) × ((k : ℕ) → i ≤ k → k < length xs → x < get_or xs k 0))

pub search_is_exact : (xs : List ℕ) (x : ℕ) (r : Result ℕ ℕ) → IsStrictlyIncreasing xs
    → IsBinarySearchResult (λ y. nat_cmp y x) xs r → is_ok r ≡ has_literal xs x
search_is_exact xs x r up result = by_result r (searched xs x r result (rises xs up))
  where
    not_there : (b : Bool) → Decides b (Contains xs x) → (Contains xs x → ⊥) → false ≡ b
    not_there true h absent = absurd (absent (h.0 refl))
    not_there false h absent = refl

    by_result : (r : Result ℕ ℕ) → Tells xs x r → is_ok r ≡ has_literal xs x
    by_result (Ok i) at = sym ((has_literal_decides xs x).1 (subst (Contains xs) at.1 (Contains-get_or xs i 0 at.0)))
    by_result (Err i) at = not_there (has_literal xs x) (has_literal_decides xs x) (absent xs x i at.1 at.2)
