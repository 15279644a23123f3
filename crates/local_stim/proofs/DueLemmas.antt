-- The lines of a stimulus text: each is read as it is spelled, and what is spelled so is read so.
use Rattle.std.proofs.Common.{◌≡◌, ◌≢◌, ℕ, suc, ◌<◌, ◌⊎◌, inl, inr, Bool, true, false, not, ◌&&◌, ◌||◌, cond, eqb, ltb, List, [], ◌∷◌, ◌++◌, length, map, Option, Some, None, Ok, Err, refl, sym, ap, subst, ◌∙◌, arith, eqb-true, eq-eqb, ltb-true, lt-ltb}
use Rattle.std.specs.Prelude.{ok_or}
use Rattle.std.specs.List.{list_all, AllByRecursion}
use Rattle.std.proofs.lemmas.List.{append-nil}
use Rattle.std.proofs.lemmas.Slice.Eq.{bytes_eq-Decides}
use Rattle.ja_text.specs.Numbers.{IsNumber, IsDigit, number_at, whole_number}
use Rattle.ja_text.specs.Lines.{IsOneLine, TakesLine, line_at}
use Rattle.ja_text.proofs.LineLemmas.{line_takes, line_again}
use Rattle.ja_text.proofs.NumberLemmas.{whole_number_takes, whole_number_again}
use Rattle.ja_text.proofs.ReadingLemmas.{bind_ok, guard_held, ok_or_ok, ok_is}
use Rattle.local_stim.specs.declared.refusal.StimRefusal.{StimRefusal}
use Rattle.local_stim.specs.declared.refusal.StimRefusal.TheVariants.{Line, Unknown, Width, Short}
use Rattle.local_stim.specs.StimulusText.{IsBit, IsRowText, IsLineEnd}
use Rattle.local_stim.specs.StimulusReading.{is_dot, line_or_dot, due_line, is_row_character, bits_of, property_of, known_property}

-- ---- a line that is due

-- it ends with LF, or it is a dot at the end of the text
abbrev pub IsDue : List ℕ → List ℕ → List ℕ → Type 0
IsDue rest line after = TakesLine rest line after ⊎ ((rest ≡ 46 ∷ []) × (line ≡ 46 ∷ []) × (after ≡ []))

due_step : (number : ℕ) (rest : List ℕ) (found : Option (List ℕ × List ℕ)) (x : List ℕ × List ℕ) → line_at rest ≡ found
    → line_or_dot number rest found ≡ Ok x → IsDue rest x.0 x.1
due_step number rest (Some y) x e h = inl
    (line_takes rest x (e ∙ ap (λ (z : List ℕ × List ℕ). Some z) (ok_is {F = StimRefusal} y x h)))
due_step number rest None x e h =
    let dot = guard_held (is_dot rest) (Short number) (rest, []) x h in
    let is = (bytes_eq-Decides rest (46 ∷ [])).0 dot.0 in
    inr (is, sym (ap (λ (z : List ℕ × List ℕ). z.0) dot.1) ∙ is, sym (ap (λ (z : List ℕ × List ℕ). z.1) dot.1))

pub due_takes : (number : ℕ) (rest : List ℕ) (x : List ℕ × List ℕ) → due_line number rest ≡ Ok x → IsDue rest x.0 x.1
unfolding due_line
due_takes number rest x h = due_step number rest (line_at rest) x refl h

-- a line other than a dot ends with LF
pub due_ends : (rest line after : List ℕ) → IsDue rest line after → line ≢ 46 ∷ [] → TakesLine rest line after
due_ends rest line after (inl t) ne = t
due_ends rest line after (inr d) ne = absurd (ne d.1)

pub due_again : (number : ℕ) (line rest : List ℕ) → IsOneLine line → due_line number (line ++ 10 ∷ rest) ≡ Ok (line, rest)
unfolding due_line
due_again number line rest h = rw (line_again line rest h) refl

-- a dot is read, whether its LF stands there or the text ends
pub due_dot : (number : ℕ) (after : List ℕ) → IsLineEnd after → (x : List ℕ) × (due_line number (46 ∷ after) ≡ Ok (46 ∷ [], x))
unfolding due_line line_at
due_dot number [] h = ([], refl)
due_dot number (b ∷ bytes) h = (bytes, rw h refl)

-- ---- a row

character_step : (a b : Bool) (c : ℕ) → eqb c 48 ≡ a → eqb c 120 ≡ b → (a || false || b) ≡ true → IsBit c false
character_step true b c d e h = inl (eqb-true c 48 d)
character_step false true c d e h = inr (eqb-true c 120 e)
character_step false false c d e h = absurd cc

bit_takes : (c : ℕ) (b : Bool) → eqb c 49 ≡ b → is_row_character c ≡ true → IsBit c b
bit_takes c true e h = eqb-true c 49 e
bit_takes c false e h = character_step (eqb c 48) (eqb c 120) c refl refl (rw e at h)

both : (a b : Bool) → (a && b) ≡ true → (a ≡ true) × (b ≡ true)
both true b h = (refl, h)
both false b h = absurd cc

row_takes : (line : List ℕ) → list_all is_row_character line ≡ true → IsRowText line (map (λ c. eqb c 49) line)
row_takes [] h = tt
row_takes (c ∷ cs) h =
    let parts = both (is_row_character c) (list_all is_row_character cs) h in
    (bit_takes c (eqb c 49) refl parts.0, row_takes cs parts.1)

pub IsRowText-length : (line : List ℕ) (bits : List Bool) → IsRowText line bits → length line ≡ length bits
IsRowText-length [] [] h = refl
IsRowText-length [] (b ∷ bs) h = absurd h
IsRowText-length (c ∷ cs) [] h = absurd h
IsRowText-length (c ∷ cs) (b ∷ bs) h = ap (λ (n : ℕ). suc n) (IsRowText-length cs bs h.1)

bits_step : (t u : Bool) (width number : ℕ) (line : List ℕ) (bits : List Bool) → list_all is_row_character line ≡ t
    → eqb (length line) width ≡ u
    → cond (not t) (Err (Line number)) (cond (not u) (Err (Width number)) (Ok (map (λ c. eqb c 49) line))) ≡ Ok bits
    → IsRowText line bits × (length bits ≡ width)
bits_step false u width number line bits e d h = absurd cc
bits_step true false width number line bits e d h = absurd cc
bits_step true true width number line bits e d h =
    let spelled = subst (λ (row : List Bool). IsRowText line row) (ok_is {F = StimRefusal} (map (λ c. eqb c 49) line) bits h)
    (row_takes line e) in
    (spelled, sym (IsRowText-length line bits spelled) ∙ eqb-true (length line) width d)

pub bits_take : (width number : ℕ) (line : List ℕ) (bits : List Bool) → bits_of width number line ≡ Ok bits → IsRowText line bits
    × (length bits ≡ width)
unfolding bits_of
bits_take width number line bits h = bits_step (list_all is_row_character line)
    (eqb (length line) width) width number line bits refl refl h

bit_again : (c : ℕ) (b : Bool) → IsBit c b → (is_row_character c ≡ true) × (eqb c 49 ≡ b)
bit_again c false (inl e) = rw e (refl, refl)
bit_again c false (inr e) = rw e (refl, refl)
bit_again c true e = rw e (refl, refl)

row_again : (line : List ℕ) (bits : List Bool) → IsRowText line bits → (list_all is_row_character line ≡ true)
    × (map (λ c. eqb c 49) line ≡ bits)
row_again [] [] h = (refl, refl)
row_again [] (b ∷ bs) h = absurd h
row_again (c ∷ cs) [] h = absurd h
row_again (c ∷ cs) (b ∷ bs) h =
    let here = bit_again c b h.0 in
    let others = row_again cs bs h.1 in
    (rw (here.0, others.0) refl, rw (here.1, others.1) refl)

pub bits_again : (width number : ℕ) (line : List ℕ) (bits : List Bool) → IsRowText line bits → length bits ≡ width
    → bits_of width number line ≡ Ok bits
unfolding bits_of
bits_again width number line bits h e =
    let row = row_again line bits h in
    rw (row.0, row.1, eq-eqb (length line) width (IsRowText-length line bits h ∙ e)) refl

bit_is_no_newline : (c : ℕ) (b : Bool) → IsBit c b → c ≢ 10
bit_is_no_newline c false (inl e) = λ n. absurd (omega arith)
bit_is_no_newline c false (inr e) = λ n. absurd (omega arith)
bit_is_no_newline c true e = λ n. absurd (omega arith)

pub IsOneLine-row : (line : List ℕ) (bits : List Bool) → IsRowText line bits → IsOneLine line
IsOneLine-row [] [] h = tt
IsOneLine-row [] (b ∷ bs) h = absurd h
IsOneLine-row (c ∷ cs) [] h = absurd h
IsOneLine-row (c ∷ cs) (b ∷ bs) h = (bit_is_no_newline c b h.0, IsOneLine-row cs bs h.1)

dot_is_no_bit : (b : Bool) → IsBit 46 b → ⊥
dot_is_no_bit false (inl e) = absurd (omega arith)
dot_is_no_bit false (inr e) = absurd (omega arith)
dot_is_no_bit true e = absurd (omega arith)

pub row_is_no_dot : (line : List ℕ) (bits : List Bool) → IsRowText line bits → line ≢ 46 ∷ []
row_is_no_dot [] bits h e = absurd cc
row_is_no_dot (c ∷ cs) [] h e = absurd h
row_is_no_dot (c ∷ cs) (b ∷ bs) h e =
    let dot : c ≡ 46 = cc in
    dot_is_no_bit b (subst (λ (k : ℕ). IsBit k b) dot h.0)

-- ---- the property

-- the line is `b` and a number
pub record NamesProperty (line : List ℕ) (p : ℕ) : Type 0 where
  pub number : List ℕ
  pub is : line ≡ 98 ∷ number
  pub form : IsNumber number p

property_step : (t : Bool) (b : ℕ) (digits : List ℕ) (p : ℕ) → eqb b 98 ≡ t
    → cond t (whole_number (number_at digits)) None ≡ Some p → NamesProperty (b ∷ digits) p
property_step true b digits p e h = record {
  number = digits;
  is = ap (λ (k : ℕ). k ∷ digits)
      (eqb-true b 98 e);
  form = whole_number_takes digits p h;
}
property_step false b digits p e h = absurd cc

pub property_takes : (line : List ℕ) (p : ℕ) → property_of line ≡ Some p → NamesProperty line p
unfolding property_of
property_takes [] p h = absurd cc
property_takes (b ∷ digits) p h = property_step (eqb b 98) b digits p refl h

pub property_again : (number : List ℕ) (p : ℕ) → IsNumber number p → property_of (98 ∷ number) ≡ Some p
unfolding property_of
property_again number p h = whole_number_again number p h

pub known_takes : (count : ℕ) (line : List ℕ) (p : ℕ) → known_property count line ≡ Ok p → NamesProperty line p × (p < count)
unfolding known_property
known_takes count line p h =
    let named = bind_ok (ok_or (property_of line) (Line 2)) (λ q. cond (ltb q count) (Ok q) (Err (Unknown 2))) p h in
    let below = guard_held (ltb named.0 count) (Unknown 2) named.0 p named.2 in
    let held : p < count = subst (λ (k : ℕ). k < count) below.1 (ltb-true named.0 count below.0) in
    (property_takes line p (ok_or_ok (property_of line) (Line 2) named.0 named.1 ∙ ap (λ (k : ℕ). Some k) below.1), held)

pub known_again : (count : ℕ) (number : List ℕ) (p : ℕ) → IsNumber number p → p < count
    → known_property count (98 ∷ number) ≡ Ok p
unfolding known_property
known_again count number p h lt = rw (property_again number p h, lt-ltb p count lt) refl

digits_are_one_line : (text : List ℕ) → AllByRecursion IsDigit text → IsOneLine text
digits_are_one_line [] h = tt
digits_are_one_line (d ∷ ds) h = ((λ e. absurd (omega (arith, h.0))), digits_are_one_line ds h.1)

pub IsOneLine-property : (number : List ℕ) (p : ℕ) → IsNumber number p → IsOneLine (98 ∷ number)
IsOneLine-property number p h = ((λ e. absurd (omega arith)), digits_are_one_line number h.digits)
