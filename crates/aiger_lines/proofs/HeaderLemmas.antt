-- A header is read as it is spelled, and what is spelled so is read so.
use Rattle.std.proofs.Common.{◌≡◌, ℕ, ◌≤◌, Bool, true, false, not, cond, ltb, List, ◌∷◌, ◌++◌, length, Some, None, Result, Ok, Err, refl, sym, ap, subst, ◌∙◌, append_assoc, arith}
use Rattle.std.specs.Prelude.{option_and_then, ok_or, ◌||◌}
use Rattle.std.proofs.lemmas.Bool.{eqb-true}
use Rattle.std.proofs.lemmas.Bool.Decides.{nat_tests}
use Rattle.std.proofs.lemmas.Option.{option_and_then_some}
use Rattle.ja_text.specs.Forms.{BeginsWith}
use Rattle.ja_text.specs.Lines.{space_at, word_at}
use Rattle.ja_text.specs.Rows.{TakesRow, row_at}
use Rattle.ja_text.specs.Reading.{◌>>=◌}
use Rattle.ja_text.proofs.ByteLemmas.{word_takes, word_again}
use Rattle.ja_text.proofs.RowLemmas.{row_takes, row_again}
use Rattle.ja_text.proofs.ReadingLemmas.{bind_ok, guard_ok, ok_is, ok_or_ok}
use Rattle.aiger_lines.specs.declared.form.Form.{Form}
use Rattle.aiger_lines.specs.declared.form.Form.TheVariants.{Ascii, Binary}
use Rattle.aiger_lines.specs.declared.sizes.Header.{Header}
use Rattle.aiger_lines.specs.declared.refusal.ReadRefusal.{ReadRefusal}
use Rattle.aiger_lines.specs.declared.refusal.ReadRefusal.TheVariants as refusal
use Rattle.aiger_lines.specs.declared.refusal.Large.TheVariants as large
use Rattle.aiger_lines.specs.Header.{word_of, header_of, IsHeaderLine, property_count, definition_count, FitsSum, IsWithinLimits}
use Rattle.aiger_lines.specs.Reading.{sizes_of, header_line_at, fits_sum, taken_sizes, taken_file, header_at}
use Rattle.aiger_lines.proofs.TailLemmas.{space_is, space_again}

-- ---- the line

-- the bytes begin with a header line of these sizes
abbrev pub TakesHeader : Form → List ℕ → Header → List ℕ → Type 0
TakesHeader form bytes h rest = BeginsWith (λ text. IsHeaderLine form text h) bytes rest

five_or_more : (m : ℕ) → ltb m 5 ≡ false → 5 ≤ m
five_or_more m h = grind (arith, nat_tests)

not_fewer : (m : ℕ) → 5 ≤ m → ltb m 5 ≡ false
not_fewer m h = grind (arith, nat_tests)

some_if_not : {A : Type 0} (b : Bool) (x y : A) → cond b None (Some x) ≡ Some y → (b ≡ false) × (x ≡ y)
some_if_not true x y e = absurd cc
some_if_not false x y e = (refl, cc)

line_of : (form : Form) (bytes after row : List ℕ) (x : List ℕ × List ℕ) (h : Header) (rest : List ℕ)
    → bytes ≡ word_of form ++ after → after ≡ 32 ∷ row → TakesRow 9 row x.0 x.1
    → sizes_of x ≡ Some (h, rest) → TakesHeader form bytes h rest
line_of form bytes after row x h rest parts next taken sizes =
    let s = some_if_not (ltb (length x.0) 5) (header_of x.0, x.1) (h, rest) sizes in
    let h-is : header_of x.0 ≡ h = ap (λ (p : Header × List ℕ). p.0) s.1 in
    let rest-is : x.1 ≡ rest = ap (λ (p : Header × List ℕ). p.1) s.1 in
    let whole : bytes ≡ (word_of form ++ 32 ∷ taken.row.text) ++ rest = parts
    ∙ ap (λ (k : List ℕ). word_of form ++ k)
    (next ∙ ap (λ (k : List ℕ). 32 ∷ k) (taken.row.parts ∙ ap (λ (k : List ℕ). taken.row.text ++ k) rest-is))
    ∙ sym (append_assoc (word_of form) (32 ∷ taken.row.text) rest) in
    record {
      text = word_of form ++ 32 ∷ taken.row.text;
      form = record {
        row = taken.row.text;
        numbers = x.0;
        text_is = refl;
        spelled = taken.row.form;
        five = five_or_more
            (length x.0) s.0;
        nine = taken.few;
        header_is = sym h-is;
      };
      parts = whole;
    }

pub header_line_takes : (form : Form) (bytes : List ℕ) (h : Header) (rest : List ℕ)
    → header_line_at (word_of form) bytes ≡ Some (h, rest) → TakesHeader form bytes h rest
unfolding header_line_at
header_line_takes form bytes h rest e =
    option_and_then_some sizes_of (option_and_then (row_at 9) (option_and_then space_at (word_at (word_of form) bytes)))
    (h, rest) e
    (λ x row sizes. option_and_then_some (row_at 9) (option_and_then space_at (word_at (word_of form) bytes)) x row
    (λ r space taken. option_and_then_some space_at (word_at (word_of form) bytes) r space
    (λ after word next. line_of form bytes after r x h rest (word_takes (word_of form) bytes after word) (space_is after r next)
    (row_takes 9 r x taken) sizes)))

pub header_line_again : (form : Form) (text rest : List ℕ) (h : Header) → IsHeaderLine form text h
    → header_line_at (word_of form) (text ++ rest) ≡ Some (h, rest)
unfolding header_line_at
header_line_again form text rest h line =
    let regrouped : text ++ rest ≡ word_of form ++ 32 ∷ (line.row ++ rest) = ap (λ (k : List ℕ). k ++ rest) line.text_is
    ∙ append_assoc (word_of form) (32 ∷ line.row) rest in
    ap (header_line_at (word_of form)) regrouped
    ∙ rw (
      word_again (word_of form) (32 ∷ (line.row ++ rest)),
      space_again (line.row ++ rest),
      row_again 9 line.row line.numbers rest line.spelled line.nine,
      not_fewer (length line.numbers) line.five,
    )
    (ap (λ (k : Header). Some (k, rest)) (sym line.header_is))

-- ---- the sizes

at_most : (m n : ℕ) → ltb n m ≡ false → m ≤ n
at_most m n h = grind (arith, nat_tests)

not_above : (m n : ℕ) → m ≤ n → ltb n m ≡ false
not_above m n h = grind (arith, nat_tests)

neither_holds : (a b : Bool) → (a || b) ≡ false → (a ≡ false) × (b ≡ false)
neither_holds true b h = absurd cc
neither_holds false b h = (refl, h)

not_false : (b : Bool) → not b ≡ false → b ≡ true
not_false true h = refl
not_false false h = absurd cc

sum_takes : (form : Form) (h : Header) → fits_sum form h ≡ true → FitsSum form h
sum_takes Ascii h e = grind (arith, nat_tests)
sum_takes Binary h e = eqb-true (definition_count h) h.vars e

sum_again : (form : Form) (h : Header) → FitsSum form h → fits_sum form h ≡ true
sum_again Ascii h s = grind (arith, nat_tests)
sum_again Binary h s = grind (arith, nat_tests)

-- a test that did not refuse, before others
passes : {A F : Type 0} (b : Bool) (d : F) (r : Result A F) (y : A) → cond b (Err d) r ≡ Ok y → (b ≡ false) × (r ≡ Ok y)
passes true d r y e = absurd cc
passes false d r y e = (refl, e)

pub sizes_take : (form : Form) (h k : Header) → taken_sizes form h ≡ Ok k → IsWithinLimits form h × (h ≡ k)
unfolding taken_sizes
sizes_take form h k e =
    let many = ltb 500000 h.outputs || ltb 500000 h.constraints in
    let live = ltb 0 h.justice || ltb 0 h.fairness in
    let lines : Result Header ReadRefusal = cond many (Err (refusal.TooLarge large.Lines)) (Ok h) in
    let properties : Result Header ReadRefusal = cond (ltb 20000 (property_count h)) (Err (refusal.TooLarge large.Props)) lines in
    let sum : Result Header ReadRefusal = cond (not (fits_sum form h)) (Err (refusal.Header 0)) properties in
    let liveness : Result Header ReadRefusal = cond live (Err refusal.Liveness) sum in
    let p1 = passes (ltb 500000 h.vars) (refusal.TooLarge large.Vars) liveness k e in
    let p2 = passes live refusal.Liveness sum k p1.1 in
    let p3 = passes (not (fits_sum form h)) (refusal.Header 0) properties k p2.1 in
    let p4 = passes (ltb 20000 (property_count h)) (refusal.TooLarge large.Props) lines k p3.1 in
    let p5 = guard_ok many (refusal.TooLarge large.Lines) h k p4.1 in
    let none = neither_holds (ltb 0 h.justice) (ltb 0 h.fairness) p2.0 in
    let few = neither_holds (ltb 500000 h.outputs) (ltb 500000 h.constraints) p5.0 in (
      record {
        vars = at_most h.vars 500000 p1.0;
        justice = omega (arith, at_most h.justice 0 none.0);
        fairness = omega (arith, at_most h.fairness 0 none.1);
        sum = sum_takes form h (not_false (fits_sum form h) p3.0);
        properties = at_most (property_count h) 20000 p4.0;
        outputs = at_most h.outputs 500000 few.0;
        constraints = at_most h.constraints 500000 few.1;
      },
      p5.1,
    )

pub sizes_again : (form : Form) (h : Header) → IsWithinLimits form h → taken_sizes form h ≡ Ok h
unfolding taken_sizes
sizes_again form h l =
    rw (
      not_above h.vars 500000 l.vars,
      not_above h.justice 0 (omega (arith, l.justice)),
      not_above h.fairness 0 (omega (arith, l.fairness)),
      sum_again form h l.sum,
      not_above (property_count h) 20000 l.properties,
      not_above h.outputs 500000 l.outputs,
      not_above h.constraints 500000 l.constraints,
    ) refl

-- ---- all of it

pub header_takes : (form : Form) (bytes : List ℕ) (h : Header) (rest : List ℕ) → header_at form bytes ≡ Ok (h, rest)
    → TakesHeader form bytes h rest × IsWithinLimits form h × (length bytes ≤ 67108864)
unfolding header_at
header_takes form bytes h rest e =
    let a = bind_ok (taken_file bytes)
    (λ file. ok_or (header_line_at (word_of form) file) (refusal.Header 0) >>= λ line. taken_sizes form line.0 >>= λ sizes. Ok
    (sizes, line.1)) (h, rest) e in
    let b = bind_ok (ok_or (header_line_at (word_of form) a.0) (refusal.Header 0))
    (λ line. taken_sizes form line.0 >>= λ sizes. Ok (sizes, line.1)) (h, rest) a.2 in
    let c = bind_ok (taken_sizes form b.0.0) (λ sizes. Ok (sizes, b.0.1)) (h, rest) b.2 in
    let small = guard_ok (ltb 67108864 (length bytes)) (refusal.TooLarge large.File) bytes a.0 a.1 in
    let line = ok_or_ok (header_line_at (word_of form) a.0) (refusal.Header 0) b.0 b.1 in
    let sizes = sizes_take form b.0.0 c.0 c.1 in
    let last = ok_is (c.0, b.0.1) (h, rest) c.2 in
    let h-is : b.0.0 ≡ h = sizes.1 ∙ ap (λ (p : Header × List ℕ). p.0) last in
    let rest-is : b.0.1 ≡ rest = ap (λ (p : Header × List ℕ). p.1) last in
    let taken = header_line_takes form a.0 b.0.0 b.0.1 line in
    let one : TakesHeader form bytes b.0.0 b.0.1 = subst (λ (k : List ℕ). TakesHeader form k b.0.0 b.0.1) (sym small.1) taken in
    let two : TakesHeader form bytes b.0.0 rest = subst (λ (k : List ℕ). TakesHeader form bytes b.0.0 k) rest-is one in (
      subst (λ (k : Header). TakesHeader form bytes k rest) h-is two,
      subst (λ (k : Header). IsWithinLimits form k) h-is sizes.0,
      at_most (length bytes) 67108864 small.0,
    )

pub header_again : (form : Form) (text rest : List ℕ) (h : Header) → IsHeaderLine form text h → IsWithinLimits form h
    → length (text ++ rest) ≤ 67108864 → header_at form (text ++ rest) ≡ Ok (h, rest)
unfolding header_at
header_again form text rest h line limits small =
    rw (not_above (length (text ++ rest)) 67108864 small, header_line_again form text rest h line, sizes_again form h limits) refl
