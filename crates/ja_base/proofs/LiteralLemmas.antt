-- The negation of a literal.
use Rattle.std.proofs.Common.{◌≡◌, ℕ, ◌*◌, ◌<◌, Bool, true, false, not, cond, List, refl, ◌∙◌, ap, arith}
use Rattle.std.proofs.lemmas.Bool.Decides.{nat_tests}
use Rattle.ja_base.specs.Literals.{bit, variable, is_negated, negated, value}

pub variable_negated : (l : ℕ) → variable (negated l) ≡ variable l
variable_negated l = grind (arith, nat_tests)

pub is_negated_negated : (l : ℕ) → is_negated (negated l) ≡ not (is_negated l)
is_negated_negated l = grind (arith, nat_tests)

pub negated_twice : (l : ℕ) → negated (negated l) ≡ l
negated_twice l = grind (arith, nat_tests)

with_sign_not : (n b : Bool) → cond (not n) (not b) b ≡ not (cond n (not b) b)
with_sign_not true true = refl
with_sign_not true false = refl
with_sign_not false b = refl

pub value_negated : (row : List Bool) (l : ℕ) → value row (negated l) ≡ not (value row l)
value_negated row l =
    ap (λ n. cond n (not (bit row (variable (negated l)))) (bit row (variable (negated l)))) (is_negated_negated l)
    ∙ ap (λ u. cond (not (is_negated l)) (not (bit row u)) (bit row u)) (variable_negated l)
    ∙ with_sign_not (is_negated l) (bit row (variable l))

-- a row with one bit a literal has one for both signs of each variable
pub literal_within : (l n : ℕ) → variable l < n → l < 2 * n
literal_within l n h = omega arith

pub negated_within : (l n : ℕ) → variable l < n → negated l < 2 * n
negated_within l n h = grind (arith, nat_tests)
