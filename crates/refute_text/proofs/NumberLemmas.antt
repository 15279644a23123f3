-- A number behind a space is read as it is spelled, and what is spelled so is read so.
use Rattle.std.proofs.Common.{◌≡◌, ℕ, ◌<◌, ◌≤◌, ◌^◌, Bool, true, false, cond, ◌&&◌, ◌||◌, eqb, ltb, List, [], ◌∷◌, ◌++◌, length, Option, Some, None, refl, sym, ap, subst, ◌∙◌, arith}
use Rattle.std.specs.Prelude.{decimal, option_and_then}
use Rattle.std.specs.List.{flat_map}
use Rattle.std.proofs.lemmas.Bool.Decides.{nat_tests}
use Rattle.std.proofs.lemmas.Option.{some_pair_parts}
use Rattle.std.proofs.lemmas.Bool.{ltb-false, le-ltb}
use Rattle.ja_text.specs.Numbers.{is_digit, value_of, IsNumber, TakesNumber, HasNoLeadingZero, BeginsWithoutDigit, number_at}
use Rattle.ja_text.specs.Lines.{space_at}
use Rattle.ja_text.specs.Repeated.{Chain}
use Rattle.ja_text.proofs.ByteLemmas.{space_takes, space_again}
use Rattle.ja_text.proofs.NumberLemmas.{digit_true, number_takes, number_again}
use Rattle.ja_text.proofs.DecimalLemmas.{decimal_is_canonical, canonical_is_decimal}
use Rattle.refute_text.specs.RefutationText.{spaced, AreSmall}
use Rattle.refute_text.specs.Reading.{TakesSpaced, TakesNone, TakesAll, has_leading_zero, spaced_at}
use Rattle.refute_text.proofs.ChainLemmas.{IsOne, regroup}

-- what was read first, where something was read
and_then_some : {A B : Type 0} (f : A → Option B) (o : Option A) (y : B) → option_and_then f o ≡ Some y
    → (x : A) × (o ≡ Some x) × (f x ≡ Some y)
and_then_some f None y e = absurd cc
and_then_some f (Some x) y e = (x, refl, e)

-- a test that let the value through
passed : {A : Type 0} (b c : Bool) (x y : A) → cond (b || c) None (Some x) ≡ Some y → (b ≡ false) × (c ≡ false) × (x ≡ y)
passed true c x y e = absurd cc
passed false true x y e = absurd cc
passed false false x y e = (refl, refl, cc)

-- ---- zeros in front

zero_only : (d : ℕ) (ds rest : List ℕ) → IsNumber (d ∷ ds) (value_of (d ∷ ds)) → has_leading_zero ((d ∷ ds) ++ rest) ≡ false
    → d ≡ 48 → d ∷ ds ≡ 48 ∷ []
zero_only d [] rest h e zero = ap (λ (k : ℕ). k ∷ []) zero
zero_only d (c ∷ cs) rest h e zero =
    let digit : is_digit c ≡ true = digit_true c h.digits.1.0 in
    let first : eqb d 48 ≡ true = grind (arith, nat_tests) in
    let both : (eqb d 48 && is_digit c) ≡ true = rw (first, digit) refl in
    absurd cc

-- where no zero stands in front of a digit, none stands in front of the number's digits
no_leading_zero : (text rest : List ℕ) → IsNumber text (value_of text) → has_leading_zero (text ++ rest) ≡ false
    → HasNoLeadingZero text
no_leading_zero [] rest h e zero = absurd (omega (arith, h.some))
no_leading_zero (d ∷ ds) rest h e zero = zero_only d ds rest h e zero

and_false : (b c : Bool) → c ≡ false → (b && c) ≡ false
and_false true c e = e
and_false false c e = refl

-- and the other way round
no_zero : (text rest : List ℕ) → 0 < length text → HasNoLeadingZero text → BeginsWithoutDigit rest
    → has_leading_zero (text ++ rest) ≡ false
no_zero [] rest some leading ends = absurd (omega (arith, some))
no_zero (d ∷ []) [] some leading ends = refl
no_zero (d ∷ []) (b ∷ bs) some leading ends = and_false (eqb d 48) (is_digit b) ends
no_zero (d ∷ e ∷ ds) rest some leading ends = other (eqb d 48) refl
  where
    other : (t : Bool) → t ≡ eqb d 48 → (t && is_digit e) ≡ false
    other true is =
        let zero : d ≡ 48 = grind (arith, nat_tests) in
        let one : length (d ∷ e ∷ ds) ≡ 1 = ap length (leading zero) in
        absurd (omega arith)
    other false is = refl

-- ---- one number

-- the digits that were read are those that are written of the number
number_written : (digits : List ℕ) (n : ℕ) (rest : List ℕ) → TakesNumber digits n rest → n ≤ 4294967295
    → has_leading_zero digits ≡ false → digits ≡ decimal n ++ rest
number_written digits n rest t small zero =
    let text = t.number.text in
    let exact : value_of text ≡ n = omega (arith, t.number.form.value) in
    let plain : IsNumber text (value_of text) =
    subst (λ (k : ℕ). IsNumber text k) {y = value_of text} (sym exact) t.number.form in
    let none : has_leading_zero (text ++ rest) ≡ false = ap has_leading_zero (sym t.number.parts) ∙ zero in
    let written : text ≡ decimal n = canonical_is_decimal text n (omega arith) (record {
      number = t.number.form;
      exact = exact;
      leading = no_leading_zero text rest plain none;
    }) in
    t.number.parts ∙ ap (λ (k : List ℕ). k ++ rest) written

spaced_parts : (bytes digits : List ℕ) (n : ℕ) (rest : List ℕ) → bytes ≡ 32 ∷ digits → TakesNumber digits n rest → n ≤ 4294967295
    → has_leading_zero digits ≡ false → TakesSpaced bytes n rest
spaced_parts bytes digits n rest begins t small zero =
    record {
      small = omega arith;
      parts = begins ∙ ap (λ (k : List ℕ). 32 ∷ k) (number_written digits n rest t small zero);
      ends = t.ends;
    }

-- the number behind the space, if its test lets it through
number_behind : List ℕ → Option (ℕ × List ℕ)
number_behind digits = option_and_then (λ x. cond (ltb 4294967295 x.0 || has_leading_zero digits) None (Some x))
    (number_at digits)

pub spaced_takes : (bytes : List ℕ) (n : ℕ) (rest : List ℕ) → spaced_at bytes ≡ Some (n, rest) → TakesSpaced bytes n rest
unfolding spaced_at number_behind
spaced_takes bytes n rest e =
    let space = and_then_some number_behind (space_at bytes) (n, rest) e in
    let number = and_then_some (λ x. cond (ltb 4294967295 x.0 || has_leading_zero space.0) None (Some x)) (number_at space.0)
    (n, rest) space.2 in
    let test = passed (ltb 4294967295 number.0.0) (has_leading_zero space.0) number.0 (n, rest) number.2 in
    let read : number_at space.0 ≡ Some (n, rest) = number.1 ∙ ap (λ (x : ℕ × List ℕ). Some x) test.2 in
    let same : number.0.0 ≡ n = ap (λ (x : ℕ × List ℕ). x.0) test.2 in
    let small : number.0.0 ≤ 4294967295 = ltb-false 4294967295 number.0.0 test.0 in
    spaced_parts bytes space.0 n rest (space_takes bytes space.0 space.1) (number_takes space.0 n rest read) (omega arith) test.1

pub spaced_again : (bytes : List ℕ) (n : ℕ) (rest : List ℕ) → TakesSpaced bytes n rest → spaced_at bytes ≡ Some (n, rest)
unfolding spaced_at
spaced_again bytes n rest t =
    let small : n < 2 ^ 64 = omega (arith, t.small) in
    let c = decimal_is_canonical n small in
    let zero : has_leading_zero (decimal n ++ rest) ≡ false = no_zero (decimal n) rest c.number.some c.leading t.ends in
    let below : ltb 4294967295 n ≡ false = le-ltb 4294967295 n (omega (arith, t.small)) in
    ap spaced_at t.parts ∙ rw (space_again (decimal n ++ rest), number_again (decimal n) rest n c.number t.ends, below, zero) refl

pub spaced_none : (bytes : List ℕ) → spaced_at bytes ≡ None → TakesNone TakesSpaced bytes
spaced_none bytes e = λ n rest t. let read : spaced_at bytes ≡ Some (n, rest) = spaced_again bytes n rest t in absurd cc

pub spaced_one : IsOne TakesSpaced
spaced_one s m t n u a b = some_pair_parts m n t u (sym (spaced_again s m t a) ∙ spaced_again s n u b)

-- ---- all numbers at the front

-- no digit stands behind a number that another or something else than a digit follows
begins : (ns rest : List ℕ) → BeginsWithoutDigit rest → BeginsWithoutDigit (flat_map spaced ns ++ rest)
begins [] rest ends = ends
begins (n ∷ ns) rest ends = subst BeginsWithoutDigit (sym (regroup spaced n ns rest)) refl

spaced_chain : (ns rest : List ℕ) → AreSmall ns → BeginsWithoutDigit rest → Chain TakesSpaced (flat_map spaced ns ++ rest) ns rest
spaced_chain [] rest small ends = refl
spaced_chain (n ∷ ns) rest small ends = (
  flat_map spaced ns ++ rest,
  record {
    small = small.0;
    parts = regroup spaced n ns rest;
    ends = begins ns rest ends;
  },
  spaced_chain ns rest small.1 ends,
)

-- numbers with no number behind them
pub spaced_all : (ns rest : List ℕ) → AreSmall ns → BeginsWithoutDigit rest → TakesNone TakesSpaced rest
    → TakesAll TakesSpaced (flat_map spaced ns ++ rest) ns rest
spaced_all ns rest small ends none = record { taken = spaced_chain ns rest small ends; ends = none }
