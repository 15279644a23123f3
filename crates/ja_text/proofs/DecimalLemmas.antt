-- What is written of a number, against the grammar of numbers.
use Rattle.std.proofs.Common.{◌≡◌, ℕ, zero, suc, ◌<◌, ◌^◌, List, length, sym, ap, ◌∙◌, arith, rules}
use Rattle.std.specs.Fmt.{decimal}
use Rattle.std.specs.List.{AllByRecursion}
use Rattle.std.proofs.lemmas.Str.Parse.{IsNumeralModel, numerals_by_fold}
use Rattle.std.proofs.lemmas.Fmt.{digits_decimal, digits_value-decimal, decimal_nonempty, decimal_digit, first_decimal, decimal-digits_value}
use Rattle.ja_text.specs.Numbers.{IsDigit, value_after, value_of, IsNumber, IsCanonical, HasNoLeadingZero}

own : IsNumeralModel (λ text. AllByRecursion IsDigit text) value_of
own = numerals_by_fold _ (search rules) value_after (search rules)

pub decimal_is_number : (n : ℕ) → n < 2 ^ 64 → IsNumber (decimal n) n
decimal_is_number n h =
    record { some = decimal_nonempty n h; digits = digits_decimal own n h; value = omega (arith, digits_value-decimal own n h) }

no_leading_zero : (n : ℕ) → n < 2 ^ 64 → HasNoLeadingZero (decimal n)
no_leading_zero zero h e = decimal_digit 0 (omega arith)
no_leading_zero (suc n) h e = absurd (omega (arith, first_decimal (suc n) (omega arith) h))

pub decimal_is_canonical : (n : ℕ) → n < 2 ^ 64 → IsCanonical (decimal n) n
decimal_is_canonical n h =
    record { number = decimal_is_number n h; exact = digits_value-decimal own n h; leading = no_leading_zero n h }

pub canonical_is_decimal : (text : List ℕ) (n : ℕ) → n < 2 ^ 64 → IsCanonical text n → text ≡ decimal n
canonical_is_decimal text n h c =
    sym (decimal-digits_value own text c.number.digits c.number.some (λ e. ap length (c.leading e)) (omega (arith, c.exact)))
    ∙ ap decimal c.exact
