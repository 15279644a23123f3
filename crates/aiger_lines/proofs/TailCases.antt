-- What follows the gates ends in form, or it has a bad line.
use Rattle.std.proofs.Common.{◌≡◌, ℕ, zero, suc, ◌<◌, Bool, true, false, List, [], ◌∷◌, length, Option, Some, None, refl, sym, ap, ◌∙◌, ◌⊎◌, inl, inr, arith, length-append}
use Rattle.std.proofs.lemmas.Bool.{false≢true}
use Rattle.ja_text.specs.Numbers.{is_digit, BeginsWithoutDigit}
use Rattle.ja_text.specs.Lines.{IsOneLine, line_at}
use Rattle.ja_text.proofs.LineLemmas.{line_takes, line_none}
use Rattle.aiger_lines.specs.declared.sizes.Header.{Header}
use Rattle.aiger_lines.specs.Tail.{IsPassedOver, IsComments, PassesOver, IsTail, HasBadLine}
use Rattle.aiger_lines.specs.Reading.{is_symbol}
use Rattle.aiger_lines.proofs.TailLemmas.{passed_over_is, passes_more, one_first}

-- it stands, or it does not
abbrev Decided : Type 0 → Type 0
Decided P = P ⊎ (P → ⊥)

same_or_not : (m n : ℕ) → Decided (m ≡ n)
same_or_not m n = grind arith

no_digit : (bytes : List ℕ) → Decided (BeginsWithoutDigit bytes)
no_digit [] = inl tt
no_digit (b ∷ bs) = by_test (is_digit b) refl
  where
    by_test : (t : Bool) → is_digit b ≡ t → Decided (is_digit b ≡ false)
    by_test true e = inr (λ h. false≢true (sym h ∙ e))
    by_test false e = inl e

comments_or_not : (bytes : List ℕ) → Decided (IsComments bytes)
comments_or_not [] = inr (λ h. h)
comments_or_not (b ∷ bytes) = both (same_or_not b 99) (no_digit bytes)
  where
    both : Decided (b ≡ 99) → Decided (BeginsWithoutDigit bytes) → Decided (IsComments (b ∷ bytes))
    both (inl e) (inl h) = inl (e, h)
    both (inl e) (inr never) = inr (λ c. never c.1)
    both (inr never) h = inr (λ c. never c.0)

passed_or_not : (h : Header) (line : List ℕ) → IsOneLine line → Decided (IsPassedOver h line)
passed_or_not h [] one = inl (inl refl)
passed_or_not h (b ∷ bs) one = by_test (is_symbol h (b ∷ bs)) refl
  where
    by_test : (t : Bool) → is_symbol h (b ∷ bs) ≡ t → Decided (IsPassedOver h (b ∷ bs))
    by_test true e = inl ((passed_over_is h (b ∷ bs) one (omega arith)).0 e)
    by_test false e = inr (λ p. false≢true (sym e ∙ (passed_over_is h (b ∷ bs) one (omega arith)).1 p))

-- the tail is in form, or it has a bad line
abbrev pub TailCases : Header → List ℕ → Type 0
TailCases h text = IsTail h text ⊎ ((bad : List ℕ) × HasBadLine h text bad)

module _ (h : Header) (text : List ℕ) where
  -- no LF is left
  last_line : (rest : List ℕ) → PassesOver h text rest → (IsComments rest → ⊥) → line_at rest ≡ None
      → Decided (IsPassedOver h rest) → TailCases h text
  last_line rest lines no_comments e (inl passed) = inl (record { rest = rest; lines = lines; ends = inl passed })
  last_line rest lines no_comments e (inr never) =
      inr (rest, record { lines = lines; not_passed = λ p. never (rw e at p); no_comments = no_comments })

  -- a line and its LF stand there; where it is passed over, what follows decides
  one_line : (rest first after : List ℕ) → PassesOver h text rest → (IsComments rest → ⊥) → line_at rest ≡ Some (first, after)
      → Decided (IsPassedOver h first)
      → (PassesOver h text after → TailCases h text) → TailCases h text
  one_line rest first after lines no_comments e (inl passed) behind = behind (passes_more h text rest first after lines e passed)
  one_line rest first after lines no_comments e (inr never) behind =
      inr (rest, record { lines = lines; not_passed = λ p. never (rw e at p); no_comments = no_comments })

  shorter : (rest first after : List ℕ) → line_at rest ≡ Some (first, after) → length after < length rest
  shorter rest first after e = omega (arith, ap length (line_takes rest (first, after) e).parts, length-append first (10 ∷ after))

  cases : (most : ℕ) (rest : List ℕ) → length rest < most → PassesOver h text rest → TailCases h text
  cases zero rest small lines = absurd (omega arith)
  cases (suc most) rest small lines = by_comments (comments_or_not rest) (λ after lt more. cases most after (omega arith) more)
    where
      by_line : (IsComments rest → ⊥)
          → ((after : List ℕ) → length after < length rest → PassesOver h text after → TailCases h text)
          → (o : Option (List ℕ × List ℕ)) → line_at rest ≡ o → TailCases h text
      by_line never behind None e = last_line rest lines never e (passed_or_not h rest (line_none rest e))
      by_line never behind (Some x) e =
          one_line rest x.0 x.1 lines never e (passed_or_not h x.0 (one_first rest x.0 x.1 e))
          (behind x.1 (shorter rest x.0 x.1 e))

      by_comments : Decided (IsComments rest)
          → ((after : List ℕ) → length after < length rest → PassesOver h text after → TailCases h text) → TailCases h text
      by_comments (inl comments) behind = inl (record { rest = rest; lines = lines; ends = inr comments })
      by_comments (inr never) behind = by_line never behind (line_at rest) refl

pub tail_cases : (h : Header) (text : List ℕ) → TailCases h text
tail_cases h text = cases h text (suc (length text)) text (omega arith) (record { lines = []; text_is = refl; passed = tt })
