-- Numbers and marks are read as they are written, and what is written so is read so.
use Rattle.std.proofs.Common.{◌≡◌, ◌≢◌, ℕ, ◌-◌, ◌<◌, ◌≤◌, ◌^◌, min, Bool, true, false, not, cond, ◌&&◌, ◌||◌, eqb, ltb, List, [], ◌∷◌, ◌++◌, length, take, Option, Some, None, refl, sym, ap, subst, ◌∙◌, length-append, take_at, append_assoc, arith, eqb-true}
use Rattle.std.specs.Prelude.{decimal, codes, bytes_eq}
use Rattle.std.specs.Fmt.{digits}
use Rattle.std.proofs.lemmas.Bool.Decides.{nat_tests}
use Rattle.std.proofs.lemmas.Bool.{ltb-false, le-ltb, eqb-false}
use Rattle.std.proofs.lemmas.Option.{some_pair_parts}
use Rattle.std.proofs.lemmas.Slice.Eq.{bytes_eq-Decides}
use Rattle.ja_text.specs.Numbers.{is_digit, value_of, IsNumber, TakesNumber, HasNoLeadingZero, BeginsWithoutDigit, number_at}
use Rattle.ja_text.specs.Lines.{word_at}
use Rattle.ja_text.proofs.ByteLemmas.{word_takes, word_again}
use Rattle.ja_text.proofs.NumberLemmas.{digit_true, number_takes, number_again}
use Rattle.ja_text.proofs.DecimalLemmas.{decimal_is_canonical, canonical_is_decimal}
use Rattle.store_core.specs.declared.mark.Mark.{Mark}
use Rattle.store_core.specs.declared.mark.Mark.TheVariants.{Proved, Fails, Budget, Cancelled}
use Rattle.report.specs.Entries.{IsSmallMark, mark_words}
use Rattle.report.specs.Tokens.{◌>>=◌, has_leading_zero, greatest, is_beyond, exact_at, small_at, small_behind, budget_at, first_mark, mark_at}

-- what was read first, where something was read
pub bind_some : {A B : Type 0} (o : Option A) (f : A → Option B) (y : B) → (o >>= f) ≡ Some y
    → (x : A) × (o ≡ Some x) × (f x ≡ Some y)
bind_some None f y e = absurd cc
bind_some (Some x) f y e = (x, refl, e)

-- a test that let the value through
pub passed : {A : Type 0} (b : Bool) (x y : A) → cond b None (Some x) ≡ Some y → (b ≡ false) × (x ≡ y)
passed true x y e = absurd cc
passed false x y e = (refl, cc)

pub or_false : (b c : Bool) → (b || c) ≡ false → (b ≡ false) × (c ≡ false)
or_false true c e = absurd cc
or_false false c e = (refl, e)

-- ---- zeros in front

zero_only : (d : ℕ) (ds rest : List ℕ) → IsNumber (d ∷ ds) (value_of (d ∷ ds)) → has_leading_zero ((d ∷ ds) ++ rest) ≡ false
    → d ≡ 48 → d ∷ ds ≡ 48 ∷ []
zero_only d [] rest h e zero = ap (λ (k : ℕ). k ∷ []) zero
zero_only d (c ∷ cs) rest h e zero =
    let digit : is_digit c ≡ true = digit_true c h.digits.1.0 in
    let first : eqb d 48 ≡ true = grind (arith, nat_tests) in
    let both : (eqb d 48 && is_digit c) ≡ true = rw (first, digit) refl in
    absurd cc

no_leading_zero : (text rest : List ℕ) → IsNumber text (value_of text) → has_leading_zero (text ++ rest) ≡ false
    → HasNoLeadingZero text
no_leading_zero [] rest h e zero = absurd (omega (arith, h.some))
no_leading_zero (d ∷ ds) rest h e zero = zero_only d ds rest h e zero

and_false : (b c : Bool) → c ≡ false → (b && c) ≡ false
and_false true c e = e
and_false false c e = refl

no_zero : (text rest : List ℕ) → 0 < length text → HasNoLeadingZero text → BeginsWithoutDigit rest
    → has_leading_zero (text ++ rest) ≡ false
no_zero [] rest some leading ends = absurd (omega (arith, some))
no_zero (d ∷ []) [] some leading ends = refl
no_zero (d ∷ []) (b ∷ bs) some leading ends = and_false (eqb d 48) (is_digit b) ends
no_zero (d ∷ e ∷ ds) rest some leading ends = other (eqb d 48) refl
  where
    other : (t : Bool) → t ≡ eqb d 48 → (t && is_digit e) ≡ false
    other true is =
        let zero : d ≡ 48 = grind (arith, nat_tests) in
        let one : length (d ∷ e ∷ ds) ≡ 1 = ap length (leading zero) in
        absurd (omega arith)
    other false is = refl

-- ---- the greatest number

decimal_greatest : decimal 18446744073709551615 ≡ greatest
unfolding digits
decimal_greatest = refl

front_of : (text rest : List ℕ) → take (length (text ++ rest) - length rest) (text ++ rest) ≡ text
front_of text rest = take_at text rest (length (text ++ rest) - length rest) (omega (arith, length-append text rest))

-- digits that are not beyond are those of the number
written : (t : Bool) (text rest : List ℕ) (n : ℕ) → t ≡ eqb n 18446744073709551615 → IsNumber text n
    → has_leading_zero (text ++ rest) ≡ false
    → (t && not (bytes_eq (take (length (text ++ rest) - length rest) (text ++ rest)) greatest)) ≡ false → text ≡ decimal n
written true text rest n is number zero e =
    let most : n ≡ 18446744073709551615 = eqb-true n 18446744073709551615 (sym is) in
    let same : bytes_eq text greatest ≡ true = same_front (bytes_eq text greatest)
    (subst (λ (k : List ℕ). not (bytes_eq k greatest) ≡ false) (front_of text rest) e) in
    (bytes_eq-Decides text greatest).0 same ∙ sym decimal_greatest ∙ ap decimal (sym most)
  where
    same_front : (b : Bool) → not b ≡ false → b ≡ true
    same_front true h = refl
    same_front false h = absurd cc
written false text rest n is number zero e =
    let other : n ≢ 18446744073709551615 = eqb-false n 18446744073709551615 (sym is) in
    let exact : value_of text ≡ n = below n (value_of text) number.value other in
    let small : n < 2 ^ 64 = under n (value_of text) number.value in
    let plain : IsNumber text (value_of text) = subst (λ (k : ℕ). IsNumber text k) (sym exact) number in
    canonical_is_decimal text n small (record { number = number; exact = exact; leading = no_leading_zero text rest plain zero })
  where
    below : (n v : ℕ) → n ≡ min v 18446744073709551615 → n ≢ 18446744073709551615 → v ≡ n
    below n v is other = omega (arith, is, other)

    under : (n v : ℕ) → n ≡ min v 18446744073709551615 → n < 2 ^ 64
    under n v is = omega (arith, is)

pub record IsExact (bytes : List ℕ) (n : ℕ) (rest : List ℕ) : Type 0 where
  pub small : n < 2 ^ 64
  pub parts : bytes ≡ decimal n ++ rest
  pub ends : BeginsWithoutDigit rest

is_exact : (bytes : List ℕ) (n : ℕ) (rest : List ℕ) → TakesNumber bytes n rest → has_leading_zero bytes ≡ false
    → is_beyond bytes (n, rest) ≡ false
    → IsExact bytes n rest
is_exact bytes n rest t zero beyond =
    let text = t.number.text in
    let zero_text : has_leading_zero (text ++ rest) ≡ false = subst (λ (k : List ℕ). has_leading_zero k ≡ false) t.number.parts
    zero in
    let beyond_text : is_beyond (text ++ rest) (n, rest) ≡ false = subst (λ (k : List ℕ). is_beyond k (n, rest) ≡ false)
    t.number.parts beyond in
    let is : text ≡ decimal n = written (eqb n 18446744073709551615) text rest n refl t.number.form zero_text beyond_text in
    record {
      small = under n (value_of text) t.number.form.value;
      parts = t.number.parts
          ∙ ap (λ (k : List ℕ). k ++ rest) is;
      ends = t.ends;
    }
  where
    under : (n v : ℕ) → n ≡ min v 18446744073709551615 → n < 2 ^ 64
    under n v is = omega (arith, is)

-- ---- numbers

pub exact_takes : (bytes : List ℕ) (n : ℕ) (rest : List ℕ) → exact_at bytes ≡ Some (n, rest) → IsExact bytes n rest
unfolding exact_at
exact_takes bytes n rest e =
    let f : ℕ × List ℕ → Option (ℕ × List ℕ) = λ x. cond (has_leading_zero bytes || is_beyond bytes x) None (Some x) in
    let number = bind_some (number_at bytes) f (n, rest) e in
    let test = passed (has_leading_zero bytes || is_beyond bytes number.0) number.0 (n, rest) number.2 in
    let read : number_at bytes ≡ Some (n, rest) = number.1 ∙ ap (λ (x : ℕ × List ℕ). Some x) test.1 in
    let both = or_false (has_leading_zero bytes) (is_beyond bytes number.0) test.0 in
    let beyond : is_beyond bytes (n, rest) ≡ false = ap (is_beyond bytes) (sym test.1) ∙ both.1 in
    is_exact bytes n rest (number_takes bytes n rest read) both.0 beyond

not_beyond : (t : Bool) (n : ℕ) (rest : List ℕ) → t ≡ eqb n 18446744073709551615
    → (t && not (bytes_eq (take (length (decimal n ++ rest) - length rest) (decimal n ++ rest)) greatest)) ≡ false
not_beyond true n rest is =
    let most : n ≡ 18446744073709551615 = eqb-true n 18446744073709551615 (sym is) in
    let front : take (length (decimal n ++ rest) - length rest) (decimal n ++ rest) ≡ greatest = front_of (decimal n) rest
    ∙ ap decimal most ∙ decimal_greatest in
    let same : bytes_eq (take (length (decimal n ++ rest) - length rest) (decimal n ++ rest)) greatest ≡ true
    = (bytes_eq-Decides (take (length (decimal n ++ rest) - length rest) (decimal n ++ rest)) greatest).1 front in
    ap not same
not_beyond false n rest is = refl

pub exact_again : (n : ℕ) (rest : List ℕ) → n < 2 ^ 64 → BeginsWithoutDigit rest → exact_at (decimal n ++ rest) ≡ Some (n, rest)
unfolding exact_at
exact_again n rest small ends =
    let c = decimal_is_canonical n small in
    let zero : has_leading_zero (decimal n ++ rest) ≡ false = no_zero (decimal n) rest c.number.some c.leading ends in
    let beyond : is_beyond (decimal n ++ rest) (n, rest) ≡ false = not_beyond (eqb n 18446744073709551615) n rest refl in
    rw (number_again (decimal n) rest n c.number ends, zero, beyond) refl

pub record IsSmallNumber (bytes : List ℕ) (n : ℕ) (rest : List ℕ) : Type 0 where
  pub small : n < 2 ^ 32
  pub parts : bytes ≡ decimal n ++ rest
  pub ends : BeginsWithoutDigit rest

pub small_takes : (bytes : List ℕ) (n : ℕ) (rest : List ℕ) → small_at bytes ≡ Some (n, rest) → IsSmallNumber bytes n rest
unfolding small_at
small_takes bytes n rest e =
    let f : ℕ × List ℕ → Option (ℕ × List ℕ) = λ x. cond (ltb 4294967295 x.0) None (Some x) in
    let number = bind_some (exact_at bytes) f (n, rest) e in
    let test = passed (ltb 4294967295 number.0.0) number.0 (n, rest) number.2 in
    let read : exact_at bytes ≡ Some (n, rest) = number.1 ∙ ap (λ (x : ℕ × List ℕ). Some x) test.1 in
    let most : number.0.0 ≤ 4294967295 = ltb-false 4294967295 number.0.0 test.0 in
    let same : number.0.0 ≡ n = ap (λ (x : ℕ × List ℕ). x.0) test.1 in
    let t = exact_takes bytes n rest read in
    record { small = omega (arith, most, same); parts = t.parts; ends = t.ends }

pub small_again : (n : ℕ) (rest : List ℕ) → n < 2 ^ 32 → BeginsWithoutDigit rest → small_at (decimal n ++ rest) ≡ Some (n, rest)
unfolding small_at
small_again n rest small ends =
    let below : ltb 4294967295 n ≡ false = le-ltb 4294967295 n (omega (arith, small)) in
    rw (exact_again n rest (omega (arith, small)) ends, below) refl

pub behind_takes : (word bytes : List ℕ) (n : ℕ) (rest : List ℕ) → small_behind word bytes ≡ Some (n, rest)
    → (n < 2 ^ 32) × (bytes ≡ word ++ decimal n ++ rest) × BeginsWithoutDigit rest
unfolding small_behind
behind_takes word bytes n rest e =
    let digits = bind_some (word_at word bytes) small_at (n, rest) e in
    let t = small_takes digits.0 n rest digits.2 in (
      t.small,
      word_takes word bytes digits.0 digits.1 ∙ ap (λ (v : List ℕ). word ++ v) t.parts
          ∙ sym (append_assoc word (decimal n) rest),
      t.ends,
    )

pub behind_again : (word : List ℕ) (n : ℕ) (rest : List ℕ) → n < 2 ^ 32 → BeginsWithoutDigit rest
    → small_behind word (word ++ decimal n ++ rest) ≡ Some (n, rest)
unfolding small_behind
behind_again word n rest small ends =
    let found : word_at word (word ++ decimal n ++ rest) ≡ Some (decimal n ++ rest)
    = ap (word_at word) (append_assoc word (decimal n) rest) ∙ word_again word (decimal n ++ rest) in
    rw (found, small_again n rest small ends) refl

-- ---- marks

budget_takes : (bytes : List ℕ) (m : Mark) (rest : List ℕ) → budget_at bytes ≡ Some (m, rest)
    → IsSmallMark m × (bytes ≡ mark_words m ++ rest)
unfolding budget_at
budget_takes bytes m rest e =
    let f : ℕ × List ℕ → Option (Mark × List ℕ) = λ x. Some (Budget x.0, x.1) in
    let digits = bind_some (word_at (codes "unknown budget ") bytes) (λ d. exact_at d >>= f) (m, rest) e in
    let x = bind_some (exact_at digits.0) f (m, rest) digits.2 in
    let same = some_pair_parts (Budget x.0.0) m x.0.1 rest x.2 in
    let t = exact_takes digits.0 x.0.0 x.0.1 x.1 in
    let parts : bytes ≡ mark_words (Budget x.0.0) ++ x.0.1
    = word_takes (codes "unknown budget ") bytes digits.0 digits.1 ∙ ap (λ (v : List ℕ). codes "unknown budget " ++ v) t.parts
    ∙ sym (append_assoc (codes "unknown budget ") (decimal x.0.0) x.0.1) in
    subst (λ (k : Mark). IsSmallMark k × (bytes ≡ mark_words k ++ rest)) same.0
    (subst (λ (v : List ℕ). IsSmallMark (Budget x.0.0) × (bytes ≡ mark_words (Budget x.0.0) ++ v)) same.1 (t.small, parts))

first_takes : (bytes : List ℕ) (a b c : Option (List ℕ)) (d : Option (Mark × List ℕ)) (m : Mark) (rest : List ℕ)
    → word_at (codes "proved") bytes ≡ a → word_at (codes "fails") bytes ≡ b → word_at (codes "unknown cancelled") bytes ≡ c
    → budget_at bytes ≡ d
    → first_mark a b c d ≡ Some (m, rest) → IsSmallMark m × (bytes ≡ mark_words m ++ rest)
first_takes bytes (Some r) b c d m rest ea eb ec ed e =
    let same = some_pair_parts Proved m r rest e in
    subst (λ (k : Mark). IsSmallMark k × (bytes ≡ mark_words k ++ rest)) same.0
    (tt, word_takes (codes "proved") bytes r ea ∙ ap (λ (v : List ℕ). codes "proved" ++ v) same.1)
first_takes bytes None (Some r) c d m rest ea eb ec ed e =
    let same = some_pair_parts Fails m r rest e in
    subst (λ (k : Mark). IsSmallMark k × (bytes ≡ mark_words k ++ rest)) same.0
    (tt, word_takes (codes "fails") bytes r eb ∙ ap (λ (v : List ℕ). codes "fails" ++ v) same.1)
first_takes bytes None None (Some r) d m rest ea eb ec ed e =
    let same = some_pair_parts Cancelled m r rest e in
    subst (λ (k : Mark). IsSmallMark k × (bytes ≡ mark_words k ++ rest)) same.0
    (tt, word_takes (codes "unknown cancelled") bytes r ec ∙ ap (λ (v : List ℕ). codes "unknown cancelled" ++ v) same.1)
first_takes bytes None None None d m rest ea eb ec ed e = budget_takes bytes m rest (ed ∙ e)

pub mark_takes : (bytes : List ℕ) (m : Mark) (rest : List ℕ) → mark_at bytes ≡ Some (m, rest)
    → IsSmallMark m × (bytes ≡ mark_words m ++ rest)
unfolding mark_at
mark_takes bytes m rest e = first_takes bytes _ _ _ _ m rest refl refl refl refl e

budget_again : (n : ℕ) (rest : List ℕ) → n < 2 ^ 64 → BeginsWithoutDigit rest
    → budget_at (mark_words (Budget n) ++ rest) ≡ Some (Budget n, rest)
unfolding budget_at
budget_again n rest small ends =
    let word : word_at (codes "unknown budget ") (codes "unknown budget " ++ decimal n ++ rest) ≡ Some (decimal n ++ rest)
    = ap (word_at (codes "unknown budget ")) (append_assoc (codes "unknown budget ") (decimal n) rest)
    ∙ word_again (codes "unknown budget ") (decimal n ++ rest) in
    rw (word, exact_again n rest small ends) refl

pub mark_again : (m : Mark) (rest : List ℕ) → IsSmallMark m → BeginsWithoutDigit rest
    → mark_at (mark_words m ++ rest) ≡ Some (m, rest)
unfolding mark_at word_at
mark_again Proved rest small ends = refl
mark_again Fails rest small ends = refl
mark_again (Budget n) rest small ends = budget_again n rest small ends
mark_again Cancelled rest small ends = refl
