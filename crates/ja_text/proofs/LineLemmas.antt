-- Where a line ends. A line is read as it is spelled, and what is spelled so is read so.
use Rattle.std.proofs.Common.{◌≡◌, ℕ, suc, ◌+◌, Bool, true, false, not, cond, eqb, ltb, List, [], ◌∷◌, ◌++◌, length, take, drop, Option, Some, None, option_map, position, refl, sym, ap, subst, ◌∙◌, ◌≢◌, arith, one-add, add-one, eqb-true}
use Rattle.std.specs.List.{position_or_len}
use Rattle.std.proofs.lemmas.Bool.Decides.{nat_tests}
use Rattle.std.proofs.lemmas.Bool.{eqb-false}
use Rattle.std.proofs.lemmas.Option.{same_Some, some_pair_parts}
use Rattle.ja_text.specs.Lines.{IsOneLine, TakesLine, line_at}

abbrev pub is_newline : ℕ → Bool
is_newline b = eqb b 10

mapped : {A B : Type 0} (f : A → B) (t : Bool) (x : A) → option_map f (cond t (Some x) None) ≡ cond t (Some (f x)) None
mapped f true x = refl
mapped f false x = refl

below_suc : (m n : ℕ) → ltb m n ≡ ltb (suc m) (suc n)
below_suc m n = grind (arith, nat_tests)

-- cut at the place at
abbrev cut : List ℕ → ℕ → Option (List ℕ × List ℕ)
cut bytes at = cond (ltb at (length bytes)) (Some (take at bytes, drop (at + 1) bytes)) None

step : (t : Bool) (b : ℕ) (bs : List ℕ) (n : ℕ) → line_at bs ≡ cut bs n
    → cond t (Some ([], bs)) (option_map (λ l. (b ∷ l.0, l.1)) (line_at bs)) ≡ cut (b ∷ bs) (cond (not t) (1 + n) 0)
step true b bs n h = let e : ltb 0 (suc (length bs)) ≡ true = grind (arith, nat_tests) in rw e refl
step false b bs n h = rw (h, one-add, add-one, add-one)
    (mapped (λ (l : List ℕ × List ℕ). (b ∷ l.0, l.1)) (ltb n (length bs)) (take n bs, drop (suc n) bs)
    ∙ ap (λ t. cond t (Some (b ∷ take n bs, drop (suc n) bs)) None) (below_suc n (length bs)))

cut_first : (bytes : List ℕ) → line_at bytes ≡ cut bytes (position_or_len is_newline bytes)
unfolding line_at
cut_first [] = refl
cut_first (b ∷ bs) = step (eqb b 10) b bs (position_or_len is_newline bs) (cut_first bs)

-- the line is cut at the first LF
pub line_at-position : (bytes : List ℕ)
    → line_at bytes ≡ option_map (λ at. (take at bytes, drop (at + 1) bytes)) (position is_newline bytes)
line_at-position bytes = cut_first bytes
    ∙ sym (mapped (λ (at : ℕ). (take at bytes, drop (at + 1) bytes)) (ltb (position_or_len is_newline bytes) (length bytes))
    (position_or_len is_newline bytes))

line_step : (t : Bool) (b : ℕ) (bs : List ℕ) (o : Option (List ℕ × List ℕ)) (x : List ℕ × List ℕ) → t ≡ eqb b 10
    → ((y : List ℕ × List ℕ) → o ≡ Some y → TakesLine bs y.0 y.1)
    → cond t (Some ([], bs)) (option_map (λ l. (b ∷ l.0, l.1)) o) ≡ Some x → TakesLine (b ∷ bs) x.0 x.1
line_step true b bs o x e ih h =
    let same : b ≡ 10 = eqb-true b 10 (sym e) in
    subst (λ (z : List ℕ × List ℕ). TakesLine (b ∷ bs) z.0 z.1) (same_Some ([], bs) x h)
    (record { one_line = tt; parts = ap (λ (k : ℕ). k ∷ bs) same })
line_step false b bs None x e ih h = absurd cc
line_step false b bs (Some y) x e ih h =
    let parts = ih y refl in
    subst (λ (z : List ℕ × List ℕ). TakesLine (b ∷ bs) z.0 z.1) (same_Some (b ∷ y.0, y.1) x h)
    (record { one_line = (eqb-false b 10 (sym e), parts.one_line); parts = ap (λ (k : List ℕ). b ∷ k) parts.parts })

pub line_takes : (bytes : List ℕ) (x : List ℕ × List ℕ) → line_at bytes ≡ Some x → TakesLine bytes x.0 x.1
unfolding line_at
line_takes [] x h = absurd cc
line_takes (b ∷ bs) x h = line_step (eqb b 10) b bs (line_at bs) x refl (λ y e. line_takes bs y e) h

other_byte : (b : ℕ) → b ≢ 10 → eqb b 10 ≡ false
other_byte b ne = grind (arith, nat_tests)

pub line_again : (text rest : List ℕ) → IsOneLine text → line_at (text ++ 10 ∷ rest) ≡ Some (text, rest)
unfolding line_at
line_again [] rest h = refl
line_again (b ∷ bs) rest h = rw (other_byte b h.0, line_again bs rest h.1) refl

line_none_step : (t : Bool) (b : ℕ) (bs : List ℕ) (o : Option (List ℕ × List ℕ)) → t ≡ eqb b 10 → (o ≡ None → IsOneLine bs)
    → cond {A = Option (List ℕ × List ℕ)} t (Some ([], bs)) (option_map (λ l. (b ∷ l.0, l.1)) o) ≡ None → IsOneLine (b ∷ bs)
line_none_step true b bs o e ih h = absurd cc
line_none_step false b bs None e ih h = (eqb-false b 10 (sym e), ih refl)
line_none_step false b bs (Some y) e ih h = absurd cc

pub line_none : (bytes : List ℕ) → line_at bytes ≡ None → IsOneLine bytes
unfolding line_at
line_none [] h = tt
line_none (b ∷ bs) h = line_none_step (eqb b 10) b bs (line_at bs) refl (λ e. line_none bs e) h

pub line_missing : (bytes : List ℕ) → IsOneLine bytes → line_at bytes ≡ None
unfolding line_at
line_missing [] h = refl
line_missing (b ∷ bs) h = rw (other_byte b h.0, line_missing bs h.1) refl

-- one text cannot be read as two lines
pub line_one : (a b x y : List ℕ) → IsOneLine a → IsOneLine b → a ++ 10 ∷ x ≡ b ++ 10 ∷ y → (a ≡ b) × (x ≡ y)
line_one a b x y g h e = some_pair_parts a b x y (sym (line_again a x g) ∙ ap line_at e ∙ line_again b y h)
