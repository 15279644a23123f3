-- In an ascending list the negation of a literal comes next, if it comes later at all.
use Rattle.std.proofs.Common.{◌≡◌, ℕ, ◌+◌, ◌<◌, ◌≤◌, ◌==◌, ◌&&◌, ◌||◌, Bool, true, false, not, nat_lt, List, [], ◌∷◌, length, get_or, drop, suc, add-one, refl, sym, subst, ◌∙◌, ap, arith}
use Rattle.std.proofs.Math.Seq.{drop-cons}
use Rattle.std.specs.List.{list_any, list_all}
use Rattle.std.proofs.lemmas.Bool.Decides.{nat_tests}
use Rattle.ja_base.specs.Literals.{variable, negated}
use Rattle.ja_base.specs.Clauses.{has_literal}
use Rattle.ja_base.proofs.ClauseLemmas.{IsAbove, Ascends, IsAbove-lower, absent_from_above}
use Rattle.refute_check.specs.Refuted.{has_both_signs}
use Rattle.refute_check.specs.Lines.{first_is, is_fit}

or_or : (a b c d : Bool) → ((a || b) || (c || d)) ≡ ((a || c) || (b || d))
or_or true b c d = refl
or_or false b true d = grind arith
or_or false b false d = refl

any_or : (p q : ℕ → Bool) (xs : List ℕ) → list_any (λ x. p x || q x) xs ≡ (list_any p xs || list_any q xs)
any_or p q [] = refl
any_or p q (x ∷ xs) =
    ap (λ b. (p x || q x) || b) (any_or p q xs) ∙ or_or (p x) (q x) (list_any p xs) (list_any q xs)

other_way : (l x : ℕ) → (l == negated x) ≡ (x == negated l)
other_way l x = grind (arith, nat_tests)

any_other_way : (l : ℕ) (xs : List ℕ) → list_any (λ x. l == negated x) xs ≡ has_literal xs (negated l)
any_other_way l [] = refl
any_other_way l (x ∷ xs) =
    ap (λ b. b || list_any (λ y. l == negated y) xs) (other_way l x)
    ∙ ap (λ b. (x == negated l) || b) (any_other_way l xs)

comes_next : (l : ℕ) (ls : List ℕ) → IsAbove l ls → Ascends ls → has_literal ls (negated l) ≡ first_is (negated l) ls
comes_next l [] above up = refl
comes_next l (y ∷ ys) above up =
    let near : negated l ≤ y = grind (arith, nat_tests, above.0) in
    let gone : has_literal ys (negated l) ≡ false =
    absent_from_above (negated l) ys (IsAbove-lower (negated l) y ys near up.0) in
    ap (λ b. (y == negated l) || b) gone ∙ or_false (y == negated l)
  where
    or_false : (b : Bool) → (b || false) ≡ b
    or_false true = refl
    or_false false = refl

not_itself : (l : ℕ) → (l == negated l) ≡ false
not_itself l = grind (arith, nat_tests)

both_step : (l : ℕ) (ls : List ℕ) → Ascends (l ∷ ls)
    → has_both_signs (l ∷ ls) ≡ (first_is (negated l) ls || has_both_signs ls)
both_step l ls up =
    ap (λ b. (b || has_literal ls (negated l)) || list_any (λ x. (l == negated x) || has_literal ls (negated x)) ls)
    (not_itself l)
    ∙ ap (λ b. has_literal ls (negated l) || b) (any_or (λ x. l == negated x) (λ x. has_literal ls (negated x)) ls)
    ∙ ap (λ b. has_literal ls (negated l) || (b || has_both_signs ls)) (any_other_way l ls)
    ∙ twice (has_literal ls (negated l)) (has_both_signs ls)
    ∙ ap (λ b. b || has_both_signs ls) (comes_next l ls up.0 up.1)
  where
    twice : (a b : Bool) → (a || (a || b)) ≡ (a || b)
    twice true b = refl
    twice false b = refl

pub fit_step : (vars l : ℕ) (ls : List ℕ) → Ascends (l ∷ ls)
    → is_fit vars (l ∷ ls) ≡ ((nat_lt (variable l) vars && not (first_is (negated l) ls)) && is_fit vars ls)
fit_step vars l ls up =
    ap (λ b. (nat_lt (variable l) vars && list_all (λ x. nat_lt (variable x) vars) ls) && not b) (both_step l ls up)
    ∙ mix (nat_lt (variable l) vars) (list_all (λ x. nat_lt (variable x) vars) ls) (first_is (negated l) ls)
    (has_both_signs ls)
  where
    mix : (a c b d : Bool) → ((a && c) && not (b || d)) ≡ ((a && not b) && (c && not d))
    mix false c b d = refl
    mix true true true d = refl
    mix true true false d = refl
    mix true false true d = refl
    mix true false false d = refl

-- the literal at a place, and what it leaves to ask of the later ones
pub fit_at : (vars i x : ℕ) (lits : List ℕ) → i < length lits → x ≡ get_or lits i x → Ascends (drop i lits)
    → Ascends (drop (i + 1) lits)
    × (is_fit vars (drop i lits)
    ≡ ((nat_lt (variable x) vars && not (first_is (negated x) (drop (i + 1) lits))) && is_fit vars (drop (i + 1) lits)))
fit_at vars i x lits less e up =
    let whole : drop i lits ≡ x ∷ drop (i + 1) lits =
    drop-cons lits i x less ∙ ap (λ v. v ∷ drop (suc i) lits) (sym e) ∙ ap (λ n. x ∷ drop n lits) (sym (add-one i)) in
    let P : List ℕ → Type 0 = Ascends in
    let here : Ascends (x ∷ drop (i + 1) lits) = subst P whole up in
    (here.1, ap (is_fit vars) whole ∙ fit_step vars x (drop (i + 1) lits) here)
