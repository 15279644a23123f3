-- Symbol lines, and lines that are passed over.
use Rattle.std.proofs.Common.{◌≡◌, ◌≢◌, ℕ, ◌<◌, Bool, true, false, ltb, List, [], ◌∷◌, ◌++◌, length, Option, Some, None, refl, sym, ap, subst, ◌∙◌, ◌⊎◌, inl, inr, append_assoc, arith}
use Rattle.std.specs.Prelude.{◌&&◌, is_some}
use Rattle.std.specs.Option.{option_map_or}
use Rattle.std.specs.List.{flat_map, AllByRecursion}
use Rattle.std.proofs.lemmas.Bool.Decides.{nat_tests}
use Rattle.std.proofs.lemmas.List.Concat.{flat_map-cons}
use Rattle.std.proofs.lemmas.List.{flat_map_more}
use Rattle.ja_text.specs.Numbers.{IsDigit, IsNumber, BeginsWithoutDigit, number_at}
use Rattle.ja_text.specs.Lines.{IsOneLine, space_at, line_at}
use Rattle.ja_text.proofs.NumberLemmas.{digit_true, number_takes, number_again}
use Rattle.ja_text.proofs.ByteLemmas.{byte_takes, byte_again}
use Rattle.ja_text.proofs.LineLemmas.{line_takes, line_again, line_missing, line_one}
use Rattle.aiger_lines.specs.declared.sizes.Header.{Header}
use Rattle.aiger_lines.specs.Tail.{symbol_count, IsSymbol, IsPassedOver, IsComments, PassesOver, IsTail, first_line, HasBadLine}
use Rattle.aiger_lines.specs.Reading.{is_symbol}
use Rattle.aiger_lines.proofs.ListLemmas.{all_join, all_back}

both_hold : (a b : Bool) → (a && b) ≡ true → (a ≡ true) × (b ≡ true)
both_hold true b h = (refl, h)
both_hold false b h = absurd cc

which_some : {A : Type 0} (o : Option A) → is_some o ≡ true → (x : A) × (o ≡ Some x)
which_some None h = absurd cc
which_some (Some x) h = (x, refl)

is_below : (m n : ℕ) → ltb m n ≡ true → m < n
is_below m n h = grind (arith, nat_tests)

tests_below : (m n : ℕ) → m < n → ltb m n ≡ true
tests_below m n h = grind (arith, nat_tests)

-- behind the number stands a space
pub space_is : (bytes rest : List ℕ) → space_at bytes ≡ Some rest → bytes ≡ 32 ∷ rest
unfolding space_at
space_is bytes rest h = byte_takes 32 bytes rest h

pub space_again : (rest : List ℕ) → space_at (32 ∷ rest) ≡ Some rest
unfolding space_at
space_again rest = byte_again 32 rest

symbol_step : (h : Header) (letter : ℕ) (line : List ℕ) (o : Option (ℕ × List ℕ)) → number_at line ≡ o → IsOneLine line
    → option_map_or (λ n. ltb n.0 (symbol_count h letter) && is_some (space_at n.1)) o false ≡ true → IsSymbol h (letter ∷ line)
symbol_step h letter line None e one t = absurd cc
symbol_step h letter line (Some n) e one t =
    let both = both_hold (ltb n.0 (symbol_count h letter)) (is_some (space_at n.1)) t in
    let name = which_some (space_at n.1) both.1 in
    let taken = number_takes line n.0 n.1 e in
    let parts : line ≡ taken.number.text ++ 32 ∷ name.0 = taken.number.parts
    ∙ ap (λ (k : List ℕ). taken.number.text ++ k) (space_is n.1 name.0 name.1) in
    record {
      letter = letter;
      digits = taken.number.text;
      position = n.0;
      name = name.0;
      line_is = ap (λ (k : List ℕ). letter ∷ k) parts;
      number = taken.number.form;
      below = is_below n.0 (symbol_count h letter) both.0;
      one_line = (all_back (λ b. b ≢ 10) taken.number.text (32 ∷ name.0) (subst IsOneLine parts one)).1;
    }

pub symbol_takes : (h : Header) (line : List ℕ) → IsOneLine line → is_symbol h line ≡ true → IsSymbol h line
symbol_takes h [] one t = absurd cc
symbol_takes h (letter ∷ line) one t = symbol_step h letter line (number_at line) refl one.1 t

pub symbol_again : (h : Header) (line : List ℕ) → IsSymbol h line → is_symbol h line ≡ true
symbol_again h line s =
    ap (is_symbol h) s.line_is
    ∙ rw (
      number_again s.digits (32 ∷ s.name) s.position s.number refl,
      tests_below s.position (symbol_count h s.letter) s.below,
      space_again s.name,
    ) refl

-- a line that is not empty and no symbol is not passed over
pub passed_over_is : (h : Header) (line : List ℕ) → IsOneLine line → (0 < length line)
    → (is_symbol h line ≡ true → IsPassedOver h line) × (IsPassedOver h line → is_symbol h line ≡ true)
passed_over_is h line one some =
    let other : line ≡ [] → is_symbol h line ≡ true = λ e. absurd (omega (arith, ap length e)) in
    (λ t. inr (symbol_takes h line one t), λ p. elim p [ inl e ↦ other e | inr s ↦ symbol_again h line s ])

-- one more line is passed over
pub passes_more : (h : Header) (text bytes first rest : List ℕ) → PassesOver h text bytes → line_at bytes ≡ Some (first, rest)
    → IsPassedOver h first → PassesOver h text rest
passes_more h text bytes first rest p e passed =
    let f = λ (line : List ℕ). line ++ 10 ∷ [] in
    let taken = line_takes bytes (first, rest) e in
    record {
      lines = p.lines ++ first ∷ [];
      text_is = p.text_is ∙ ap (λ (k : List ℕ). flat_map f p.lines ++ k) (taken.parts ∙ sym (append_assoc first (10 ∷ []) rest))
          ∙ sym (append_assoc (flat_map f p.lines) (f first) rest)
          ∙ ap (λ (k : List ℕ). k ++ rest) (flat_map_more f [] p.lines first);
      passed = all_join (IsPassedOver h) p.lines (first ∷ []) p.passed (passed, tt);
    }

pub one_first : (bytes first rest : List ℕ) → line_at bytes ≡ Some (first, rest) → IsOneLine first
one_first bytes first rest e = (line_takes bytes (first, rest) e).one_line

-- ---- a tail has no bad line

digit_first : (digits name : List ℕ) (n : ℕ) → IsNumber digits n → BeginsWithoutDigit (digits ++ 32 ∷ name) → ⊥
digit_first [] name n h ends = absurd (omega (arith, h.some))
digit_first (d ∷ digits) name n h ends = absurd (cc (digit_true d h.digits.0, ends))

-- a line that is passed over begins no comments, whatever follows it
not_comments : (h : Header) (line rest : List ℕ) → IsPassedOver h line → IsComments (line ++ rest) → (line ≡ [])
not_comments h line rest (inl e) c = e
not_comments h line rest (inr s) c =
    let regrouped : line ++ rest ≡ s.letter ∷ (s.digits ++ 32 ∷ (s.name ++ rest)) = ap (λ (k : List ℕ). k ++ rest) s.line_is
    ∙ ap (λ (k : List ℕ). s.letter ∷ k) (append_assoc s.digits (32 ∷ s.name) rest) in
    let moved = subst IsComments regrouped c in
    absurd (digit_first s.digits (s.name ++ rest) s.position s.number moved.1)

digits_one : (digits : List ℕ) → AllByRecursion IsDigit digits → IsOneLine digits
digits_one [] h = tt
digits_one (d ∷ digits) h = ((λ e. absurd (omega (arith, h.0.0))), digits_one digits h.1)

letter_one : (h : Header) (letter : ℕ) → 0 < symbol_count h letter → letter ≢ 10
letter_one h letter lt e =
    let none : symbol_count h letter ≡ 0 = ap (symbol_count h) e in
    absurd (omega arith)

passed_one : (h : Header) (line : List ℕ) → IsPassedOver h line → IsOneLine line
passed_one h line (inl e) = subst IsOneLine (sym e) tt
passed_one h line (inr s) =
    let one : IsOneLine (s.digits ++ 32 ∷ s.name) = all_join (λ b. b ≢ 10) s.digits (32 ∷ s.name)
    (digits_one s.digits s.number.digits) ((λ e. absurd (omega arith)), s.one_line) in
    subst IsOneLine (sym s.line_is) (letter_one h s.letter (omega (arith, s.below)), one)

first_line_all : (bytes : List ℕ) → IsOneLine bytes → first_line bytes ≡ bytes
first_line_all bytes one = rw (line_missing bytes one) refl

first_line_of : (line rest : List ℕ) → IsOneLine line → first_line (line ++ 10 ∷ rest) ≡ line
first_line_of line rest one = rw (line_again line rest one) refl

-- no comments begin at the LF of an empty line
no_newline : (rest : List ℕ) → IsComments (10 ∷ rest) → ⊥
no_newline rest c = absurd (omega (arith, c.0))

front_of : List (List ℕ) → List ℕ
front_of lines = flat_map (λ line. line ++ 10 ∷ []) lines

front-cons : (line : List ℕ) (lines : List (List ℕ)) (rest : List ℕ)
    → front_of (line ∷ lines) ++ rest ≡ line ++ 10 ∷ (front_of lines ++ rest)
unfolding front_of
front-cons line lines rest =
    ap (λ (k : List ℕ). k ++ rest) (flat_map-cons (λ (l : List ℕ). l ++ 10 ∷ []) line lines)
    ∙ append_assoc (line ++ 10 ∷ []) (front_of lines) rest ∙ append_assoc line (10 ∷ []) (front_of lines ++ rest)

-- the same text behind lines that are passed over: either way it ends, or it has a bad line
module _ (h : Header) where
  ends_here : (rest bad : List ℕ) (lines : List (List ℕ)) → IsPassedOver h rest ⊎ IsComments rest
      → AllByRecursion (IsPassedOver h) lines → rest ≡ front_of lines ++ bad
      → (IsPassedOver h (first_line bad) → ⊥) → (IsComments bad → ⊥) → ⊥
  unfolding front_of
  ends_here rest bad [] (inl p) passed e unpassed uncommented = unpassed
      (subst (λ (k : List ℕ). IsPassedOver h k) (e ∙ sym (first_line_all bad (subst IsOneLine e (passed_one h rest p)))) p)
  ends_here rest bad [] (inr c) passed e unpassed uncommented = uncommented (subst IsComments e c)
  ends_here rest bad (line ∷ lines) (inl p) passed e unpassed uncommented =
      let regrouped = e ∙ front-cons line lines bad in
      (all_back (λ b. b ≢ 10) line (10 ∷ (front_of lines ++ bad)) (subst IsOneLine regrouped (passed_one h rest p))).0 refl
  ends_here rest bad (line ∷ lines) (inr c) passed e unpassed uncommented =
      let regrouped = e ∙ front-cons line lines bad in
      let moved = subst IsComments regrouped c in
      let empty = not_comments h line (10 ∷ (front_of lines ++ bad)) passed.0 moved in
      no_newline (front_of lines ++ bad) (subst (λ (k : List ℕ). IsComments (k ++ 10 ∷ (front_of lines ++ bad))) empty moved)

  ends_or_bad : (lines others : List (List ℕ)) (rest bad : List ℕ) → AllByRecursion (IsPassedOver h) lines
      → AllByRecursion (IsPassedOver h) others → front_of lines ++ rest ≡ front_of others ++ bad
      → IsPassedOver h rest ⊎ IsComments rest → (IsPassedOver h (first_line bad) → ⊥) → (IsComments bad → ⊥) → ⊥
  unfolding front_of
  ends_or_bad [] others rest bad passed passed' e ends unpassed uncommented =
      ends_here rest bad others ends passed' e unpassed uncommented
  ends_or_bad (line ∷ lines) [] rest bad passed passed' e ends unpassed uncommented =
      let first : first_line bad ≡ line = ap first_line (sym e ∙ front-cons line lines rest)
      ∙ first_line_of line (front_of lines ++ rest) (passed_one h line passed.0) in
      unpassed (subst (λ (k : List ℕ). IsPassedOver h k) (sym first) passed.0)
  ends_or_bad (line ∷ lines) (other ∷ others) rest bad passed passed' e ends unpassed uncommented =
      let same = line_one line other (front_of lines ++ rest) (front_of others ++ bad) (passed_one h line passed.0)
      (passed_one h other passed'.0) (sym (front-cons line lines rest) ∙ e ∙ front-cons other others bad) in
      ends_or_bad lines others rest bad passed.1 passed'.1 same.1 ends unpassed uncommented

pub tail_has_none : (h : Header) (text rest : List ℕ) → IsTail h text → HasBadLine h text rest → ⊥
unfolding front_of
tail_has_none h text rest t b = ends_or_bad h t.lines.lines b.lines.lines t.rest rest t.lines.passed b.lines.passed
    (sym t.lines.text_is ∙ b.lines.text_is) t.ends b.not_passed b.no_comments

-- ---- a text has one bad line

abbrev IsUnpassed : Header → List ℕ → Type 0
IsUnpassed h bytes = IsPassedOver h (first_line bytes) → ⊥

passed_first : (h : Header) (line : List ℕ) (lines : List (List ℕ)) (rest bytes : List ℕ) → IsPassedOver h line
    → bytes ≡ front_of (line ∷ lines) ++ rest → IsPassedOver h (first_line bytes)
passed_first h line lines rest bytes p e =
    subst (λ (k : List ℕ). IsPassedOver h k)
    (sym (ap first_line (e ∙ front-cons line lines rest)
    ∙ first_line_of line (front_of lines ++ rest) (passed_one h line p))) p

same_bad : (h : Header) (lines others : List (List ℕ)) (a b : List ℕ) → AllByRecursion (IsPassedOver h) lines
    → AllByRecursion (IsPassedOver h) others → front_of lines ++ a ≡ front_of others ++ b → IsUnpassed h a → IsUnpassed h b
    → a ≡ b
unfolding front_of
same_bad h [] [] a b passed passed' e unpassed unpassed' = e
same_bad h [] (other ∷ others) a b passed passed' e unpassed unpassed' = absurd
    (unpassed (passed_first h other others b a passed'.0 e))
same_bad h (line ∷ lines) [] a b passed passed' e unpassed unpassed' = absurd
    (unpassed' (passed_first h line lines a b passed.0 (sym e)))
same_bad h (line ∷ lines) (other ∷ others) a b passed passed' e unpassed unpassed' =
    let same = line_one line other (front_of lines ++ a) (front_of others ++ b) (passed_one h line passed.0)
    (passed_one h other passed'.0) (sym (front-cons line lines a) ∙ e ∙ front-cons other others b) in
    same_bad h lines others a b passed.1 passed'.1 same.1 unpassed unpassed'

pub bad_line_one : (h : Header) (text a b : List ℕ) → HasBadLine h text a → HasBadLine h text b → a ≡ b
unfolding front_of
bad_line_one h text a b s t = same_bad h s.lines.lines t.lines.lines a b s.lines.passed t.lines.passed
    (sym s.lines.text_is ∙ t.lines.text_is) s.not_passed t.not_passed
