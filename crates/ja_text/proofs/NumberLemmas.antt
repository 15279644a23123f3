-- A number is read as it is spelled, and what is spelled so is read so.
use Rattle.std.proofs.Common.{◌≡◌, ℕ, ◌+◌, ◌-◌, ◌*◌, ◌<◌, ◌≤◌, Bool, true, false, cond, List, [], ◌∷◌, ◌++◌, length, Option, Some, None, refl, sym, ap, subst, ◌∙◌, arith}
use Rattle.std.specs.List.{AllByRecursion}
use Rattle.std.proofs.lemmas.Bool.Decides.{nat_tests}
use Rattle.std.proofs.lemmas.List.{append-nil}
use Rattle.std.proofs.lemmas.Option.{cond_some, some_pair_parts}
use Rattle.ja_text.specs.Numbers.{IsDigit, is_digit, value_after, saturated, IsNumber, BeginsWithoutDigit, TakesNumber, digits_at, number_at, whole_number}

pub digit_true : (b : ℕ) → IsDigit b → is_digit b ≡ true
digit_true b h = grind (arith, nat_tests)

pub digit_is : (b : ℕ) → is_digit b ≡ true → IsDigit b
digit_is b h = grind (arith, nat_tests)

saturated_step : (n d : ℕ) → saturated (10 * saturated n + d) ≡ saturated (10 * n + d)
saturated_step n d = omega arith

saturated_twice : (n : ℕ) → saturated (saturated n) ≡ saturated n
saturated_twice n = omega arith

-- it is the same whether what came before was saturated
saturated_value : (n : ℕ) (ds : List ℕ) → saturated (value_after (saturated n) ds) ≡ saturated (value_after n ds)
saturated_value n [] = saturated_twice n
saturated_value n (d ∷ ds) =
    sym (saturated_value (10 * saturated n + (d - 48)) ds) ∙ ap (λ k. saturated (value_after k ds)) (saturated_step n (d - 48))
    ∙ saturated_value (10 * n + (d - 48)) ds

-- digits stand at the front, and n is what they stand for behind those of before
record Digits (before : ℕ) (bytes : List ℕ) (n : ℕ) (rest : List ℕ) : Type 0 where
  text : List ℕ
  parts : bytes ≡ text ++ rest
  digits : AllByRecursion IsDigit text
  value : n ≡ saturated (value_after before text)
  ends : BeginsWithoutDigit rest

digits_take_step : (t : Bool) (before b : ℕ) (bs : List ℕ) → is_digit b ≡ t → before ≤ 18446744073709551615
    → Digits (saturated (10 * before + (b - 48))) bs (digits_at (saturated (10 * before + (b - 48))) bs).0
    (digits_at (saturated (10 * before + (b - 48))) bs).1
    → Digits before (b ∷ bs) (cond t (digits_at (saturated (10 * before + (b - 48))) bs) (before, b ∷ bs)).0
    (cond t (digits_at (saturated (10 * before + (b - 48))) bs) (before, b ∷ bs)).1
digits_take_step true before b bs e small d =
    record {
      text = b ∷ d.text;
      parts = ap (λ (x : List ℕ). b ∷ x) d.parts;
      digits = (digit_is b e, d.digits);
      value = d.value
          ∙ saturated_value (10 * before + (b - 48)) d.text;
      ends = d.ends;
    }
digits_take_step false before b bs e small d =
    record { text = []; parts = refl; digits = tt; value = omega arith; ends = e }

digits_take : (before : ℕ) (bytes : List ℕ) → before ≤ 18446744073709551615
    → Digits before bytes (digits_at before bytes).0 (digits_at before bytes).1
digits_take before [] small = record { text = []; parts = refl; digits = tt; value = omega arith; ends = tt }
digits_take before (b ∷ bs) small =
    digits_take_step (is_digit b) before b bs refl small (digits_take (saturated (10 * before + (b - 48))) bs (omega arith))

digits_again : (before : ℕ) (text rest : List ℕ) → before ≤ 18446744073709551615 → AllByRecursion IsDigit text
    → BeginsWithoutDigit rest
    → digits_at before (text ++ rest) ≡ (saturated (value_after before text), rest)
digits_again before [] [] small digits ends = ap (λ (k : ℕ). (k, [])) (omega arith)
digits_again before [] (b ∷ bs) small digits ends = rw ends (ap (λ (k : ℕ). (k, b ∷ bs)) (omega arith))
digits_again before (d ∷ ds) rest small digits ends =
    rw (digit_true d digits.0)
    (digits_again (saturated (10 * before + (d - 48))) ds rest (omega arith) digits.1 ends
    ∙ ap (λ (k : ℕ). (k, rest)) (saturated_value (10 * before + (d - 48)) ds))

one_digit : (b : ℕ) (bs text rest : List ℕ) → is_digit b ≡ true → b ∷ bs ≡ text ++ rest → BeginsWithoutDigit rest
    → 0 < length text
one_digit b bs [] rest h parts ends =
    let none : is_digit b ≡ false = subst BeginsWithoutDigit (sym parts) ends in
    absurd cc
one_digit b bs (d ∷ ds) rest h parts ends = omega arith

not_some : {A : Type 0} (t : Bool) (x : A) → cond t (Some x) None ≡ None → t ≡ false
not_some true x e = absurd cc
not_some false x e = refl

pub number_takes : (bytes : List ℕ) (n : ℕ) (rest : List ℕ) → number_at bytes ≡ Some (n, rest) → TakesNumber bytes n rest
unfolding number_at
number_takes [] n rest e = absurd cc
number_takes (b ∷ bs) n rest e =
    let some = cond_some (is_digit b) (digits_at 0 (b ∷ bs)) (n, rest) e in
    let d = subst (λ (x : ℕ × List ℕ). Digits 0 (b ∷ bs) x.0 x.1) some.1 (digits_take 0 (b ∷ bs) (omega arith)) in
    record {
      number = record {
        text = d.text;
        form = record {
          some = one_digit b bs d.text rest some.0 d.parts d.ends;
          digits = d.digits;
          value = d.value;
        };
        parts = d.parts;
      };
      ends = d.ends;
    }

pub number_again : (text rest : List ℕ) (n : ℕ) → IsNumber text n → BeginsWithoutDigit rest
    → number_at (text ++ rest) ≡ Some (n, rest)
unfolding number_at
number_again [] rest n h ends = absurd (omega (arith, h.some))
number_again (d ∷ ds) rest n h ends =
    ap (λ (t : Bool). cond t (Some (digits_at 0 ((d ∷ ds) ++ rest))) None) (digit_true d h.digits.0)
    ∙ (ap (λ (x : ℕ × List ℕ). Some x)
    (digits_again 0 (d ∷ ds) rest (omega arith) h.digits ends ∙ ap (λ (k : ℕ). (k, rest)) (sym h.value)))

pub number_none : (bytes : List ℕ) → number_at bytes ≡ None → BeginsWithoutDigit bytes
unfolding number_at
number_none [] e = tt
number_none (b ∷ bs) e = not_some (is_digit b) (digits_at 0 (b ∷ bs)) e

pub number_missing : (bytes : List ℕ) → BeginsWithoutDigit bytes → number_at bytes ≡ None
unfolding number_at
number_missing [] h = refl
number_missing (b ∷ bs) h = rw h refl

-- one text cannot be read as two numbers
pub number_one : (a b x y : List ℕ) (m n : ℕ) → IsNumber a m → IsNumber b n → BeginsWithoutDigit x → BeginsWithoutDigit y
    → a ++ x ≡ b ++ y → (m ≡ n) × (x ≡ y)
number_one a b x y m n g h ends others e =
    some_pair_parts m n x y (sym (number_again a x m g ends) ∙ ap number_at e ∙ number_again b y n h others)

-- ---- a number and nothing behind it

whole_step : (bytes : List ℕ) (found : Option (ℕ × List ℕ)) (n : ℕ) → number_at bytes ≡ found → whole_number found ≡ Some n
    → IsNumber bytes n
whole_step bytes None n e h = absurd cc
whole_step bytes (Some (m, [])) n e h =
    let same : m ≡ n = cc in
    let taken = number_takes bytes m [] e in
    let whole : bytes ≡ taken.number.text = taken.number.parts ∙ append-nil taken.number.text in
    subst (λ (k : ℕ). IsNumber bytes k) same (subst (λ (text : List ℕ). IsNumber text m) (sym whole) taken.number.form)
whole_step bytes (Some (m, b ∷ bs)) n e h = absurd cc

pub whole_number_takes : (bytes : List ℕ) (n : ℕ) → whole_number (number_at bytes) ≡ Some n → IsNumber bytes n
whole_number_takes bytes n h = whole_step bytes (number_at bytes) n refl h

pub whole_number_again : (bytes : List ℕ) (n : ℕ) → IsNumber bytes n → whole_number (number_at bytes) ≡ Some n
whole_number_again bytes n h =
    ap (λ (text : List ℕ). whole_number (number_at text)) (sym (append-nil bytes)) ∙ rw (number_again bytes [] n h tt) refl
