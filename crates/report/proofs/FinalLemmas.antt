-- What a report is read of, all of the bytes, and why bytes are refused.
use Rattle.std.proofs.Common.{◌≡◌, ◌≢◌, ℕ, ◌+◌, ◌-◌, ◌<◌, ◌≤◌, ◌^◌, Bool, true, false, not, cond, ◌&&◌, eqb, List, [], ◌∷◌, ◌++◌, length, length-append, take, drop, take_at, Option, Some, None, option_map, is_some, refl, sym, ap, subst, ◌∙◌, append_assoc, append-nil, arith, eqb-true, eq-eqb}
use Rattle.std.specs.Prelude.{⊤, codes, decimal, bytes_eq}
use Rattle.std.specs.List.{AllByRecursion, list_all, flat_map}
use Rattle.std.proofs.lemmas.Bool.Decides.{nat_tests}
use Rattle.std.proofs.lemmas.Bool.{eqb-false}
use Rattle.std.proofs.lemmas.Slice.Eq.{bytes_eq-Decides}
use Rattle.ja_base.specs.declared.memory.OrMemory.{OrMemory}
use Rattle.ja_base.specs.declared.memory.OrMemory.TheVariants.{Refused, Memory}
use Rattle.ja_text.specs.Numbers.{IsDigit, is_digit, HasNoLeadingZero}
use Rattle.ja_text.specs.Lines.{line_at, word_at}
use Rattle.ja_text.proofs.ByteLemmas.{word_takes, word_again}
use Rattle.ja_text.proofs.LineLemmas.{line_takes, line_again, line_one}
use Rattle.ja_text.proofs.NumberLemmas.{digit_true, digit_is}
use Rattle.store_core.specs.declared.journal.Entry.{Entry}
use Rattle.report.specs.declared.line.BadLine.{BadLine}
use Rattle.report.specs.Findings.{Findings, as_shown}
use Rattle.report.specs.Reports.{IfShown, IsReport, IsSmall, IsReportText, IsOtherVersion, IsBadLine, IsShownJournal, line_count, line_of, sizes_words, prop_lines, clause_words, stimulus_lines, joined_words, set_words, journal_text, report_text}
use Rattle.report.specs.Forms.{Takes, Stops, Fails, texts_from}
use Rattle.report.specs.Sections.{prop_form}
use Rattle.report.specs.Lines.{where_true}
use Rattle.report.specs.Tokens.{has_leading_zero}
use Rattle.report.specs.Whole.{IsRead, report_form, IsBadFrom, Spells, FailsWhole, is_other, other_at}
use Rattle.report.proofs.TokenLemmas.{bind_some}
use Rattle.report.proofs.DecodeLemmas.{IsOneLine-append, IsOneLine-tested, no_newlines, where_is}
use Rattle.report.proofs.WholeLemmas.{report_sound, behind_head, parts_of, parts_text}

-- ---- a report and what its text shows

not_shown : (b : Bool) (P : Type 0) → b ≡ false → IfShown b P
not_shown true P e = absurd cc
not_shown false P e = tt

journal_none : (b : Bool) (es fs : List Entry) → b ≡ false → journal_text b es ≡ journal_text b fs
journal_none true es fs e = absurd cc
journal_none false es fs e = refl

-- the report without its journal
abbrev bare : Findings → Findings
bare r = record r { journal = [] }

bare_text : (r : Findings) → r.shown ≡ false → report_text (bare r) ≡ report_text r
bare_text r e =
    ap (λ (j : List ℕ). line_of (codes "jasign 1") ++ line_of (codes "design" ++ sizes_words r.sizes) ++ prop_lines 0 r.lines
    ++ line_of (codes "clauses " ++ decimal (length r.clauses)) ++ flat_map (λ c. line_of (clause_words c)) r.clauses
    ++ flat_map stimulus_lines r.stimuli ++ line_of (joined_words r.joined) ++ line_of (set_words r.set) ++ j ++ line_of
    (codes "end"))
    (journal_none r.shown [] r.journal e)

read_as : (b : Bool) (r : Findings) → r.shown ≡ b → IsReport r → IsSmall r
    → IsRead (cond b r (bare r)) × (report_text (cond b r (bare r)) ≡ report_text r)
read_as true r e form
    small = (record { form = form; small = small; hidden = λ f. let wrong : true ≡ false = sym e ∙ f in absurd cc }, refl)
read_as false r e form small = (
  record {
    form = record {
      lines = form.lines;
      clauses = form.clauses;
      stimuli = form.stimuli;
      widths = form.widths;
      set_ascends = form.set_ascends;
      set_within = form.set_within;
      journal = not_shown r.shown (IsShownJournal (bare r)) e;
    };
    small = record {
      sizes = small.sizes;
      marks = small.marks;
      count = small.count;
      literals = small.literals;
      journal = not_shown
          r.shown ((0 < 2 ^ 32) × ⊤) e;
    };
    hidden = λ f. refl;
  },
  bare_text r e,
)

-- the text of a report is that of the report as it is read
shown_taken : (bytes : List ℕ) (r : Findings) → IsReportText bytes r → Takes report_form bytes (as_shown r) []
shown_taken bytes r t =
    let same = read_as r.shown r refl t.form t.small in
    record { fits = same.0; parts = t.text ∙ sym same.1 ∙ sym (append-nil (report_text (as_shown r))) }

-- ---- what was read

pub spelled : (bytes : List ℕ) (r : Findings) (rest : List ℕ) → Takes report_form bytes r rest → rest ≡ [] → Spells bytes r
spelled bytes r rest t none = record {
  text = record {
    form = t.fits.form;
    small = t.fits.small;
    text = t.parts ∙ ap (λ (v : List ℕ). report_text r ++ v) none
        ∙ append-nil (report_text r);
  };
  hidden = t.fits.hidden;
}

-- one report has the bytes as its text
one_text : (bytes : List ℕ) (r : Findings) (rest : List ℕ) (s : Findings) → Takes report_form bytes r rest → IsReportText bytes s
    → (r ≡ as_shown s) × (rest ≡ [])
one_text bytes r rest s t u =
    let v = shown_taken bytes s u in
    report_sound.one r rest (as_shown s) [] t.fits v.fits (sym t.parts ∙ v.parts)

pub only_report : (bytes : List ℕ) (r : Findings) → Spells bytes r → (s : Findings) → IsReportText bytes s → r ≡ as_shown s
only_report bytes r h s u =
    let t : Takes report_form bytes r [] = record {
      fits = record { form = h.text.form; small = h.text.small; hidden = h.hidden };
      parts = h.text.text ∙ sym (append-nil (report_text r));
    } in
    (one_text bytes r [] s t u).0

-- ---- what is refused

-- what begins with a report's text and is one
begun : (front line rest : List ℕ) (r : Findings) → IsReportText ((front ++ line ++ 10 ∷ []) ++ rest) r
    → Takes report_form (front ++ line ++ 10 ∷ rest) (as_shown r) []
begun front line rest r t =
    subst (λ (v : List ℕ). Takes report_form v (as_shown r) []) (append_assoc (front ++ line) (10 ∷ []) rest)
    (shown_taken ((front ++ line ++ 10 ∷ []) ++ rest) r t)

pub stopped : (bytes : List ℕ) (left : ℕ) → Stops report_form bytes left → IsBadFrom bytes left
stopped bytes left s =
    let b = s.begins in
    record {
      front = s.front;
      rest = s.rest;
      parts = s.parts;
      left_is = s.left_is;
      bad = record {
        front = s.front;
        rest = s.rest;
        parts = s.parts;
        lines = s.lines;
        number = refl;
        begins = record {
          report = b.value;
          rest = b.rest;
          text = record { form = b.fits.form; small = b.fits.small; text = sym b.text };
        };
        no_more = λ line after one e h. s.no_more line after h.rest one e (as_shown h.report) []
            (begun s.front line h.rest h.report h.text);
        none = λ r t. s.none (as_shown r) [] (shown_taken bytes r t);
      };
    }

not_nothing : (line rest : List ℕ) → line ++ 10 ∷ rest ≡ [] → ⊥
not_nothing line rest e =
    let len : length (line ++ 10 ∷ rest) ≡ 0 = ap length e in
    omega (arith, len, length-append line (10 ∷ rest))

-- a report with something behind it
pub followed : (bytes : List ℕ) (r : Findings) (rest : List ℕ) → Takes report_form bytes r rest → (rest ≡ [] → ⊥)
    → IsBadFrom bytes (length rest)
followed bytes r rest t some =
    let text = report_text r in
    record {
      front = text;
      rest = rest;
      parts = t.parts;
      left_is = refl;
      bad = record {
        front = text;
        rest = rest;
        parts = t.parts;
        lines = report_sound.lines r t.fits;
        number = refl;
        begins = record {
          report = r;
          rest = [];
          text = record { form = t.fits.form; small = t.fits.small; text = append-nil text };
        };
        no_more = λ line after one e h.
            let v = begun text line h.rest h.report h.text in
            let same = report_sound.one r (line ++ 10 ∷ h.rest) (as_shown h.report) [] t.fits v.fits
            (sym (append_assoc text line (10 ∷ h.rest)) ∙ v.parts) in
            not_nothing line h.rest same.1;
        none = λ s u. some (one_text bytes r rest s t u).1;
      };
    }

pub fails_whole : (bytes : List ℕ) (e : OrMemory BadLine) → Fails report_form bytes e → FailsWhole bytes e
fails_whole bytes (Refused b) h = stopped bytes b.left h
fails_whole bytes Memory h = tt

-- the number of the line is counted in what stands before it
pub counted : (bytes : List ℕ) (left line : ℕ) → IsBadFrom bytes left → line ≡ line_count (take (length bytes - left) bytes) + 1
    → IsBadLine bytes line
counted bytes left line h is =
    let len : length bytes - left ≡ length h.front = omega (arith, h.left_is, ap length h.parts, length-append h.front h.rest) in
    let front : take (length bytes - left) bytes ≡ h.front
    = ap (take (length bytes - left)) h.parts ∙ take_at h.front h.rest (length bytes - left) (sym len) in
    subst (IsBadLine bytes) (sym (is ∙ ap (λ (v : List ℕ). line_count v + 1) front)) h.bad

pub left_within : (bytes : List ℕ) (left : ℕ) → IsBadFrom bytes left → left ≤ length bytes
left_within bytes left h = omega (arith, h.left_is, ap length h.parts, length-append h.front h.rest)

-- ---- another version

and_parts : (a b : Bool) → (a && b) ≡ true → (a ≡ true) × (b ≡ true)
and_parts true b e = (refl, e)
and_parts false b e = absurd cc

not_true : (b : Bool) → not b ≡ true → b ≡ false
not_true true e = absurd cc
not_true false e = refl

digits_are : (text : List ℕ) → list_all is_digit text ≡ true → AllByRecursion IsDigit text
digits_are [] e = tt
digits_are (d ∷ text) e = let both = and_parts (is_digit d) (list_all is_digit text) e
    in (digit_is d both.0, digits_are text both.1)

are_digits : (text : List ℕ) → AllByRecursion IsDigit text → list_all is_digit text ≡ true
are_digits [] h = refl
are_digits (d ∷ text) h = rw (digit_true d h.0, are_digits text h.1) refl

leading_of : (text : List ℕ) → 0 < length text → AllByRecursion IsDigit text → has_leading_zero text ≡ false
    → HasNoLeadingZero text
leading_of [] some digits e zero = absurd (omega (arith, some))
leading_of (d ∷ []) some digits e zero = ap (λ (k : ℕ). k ∷ []) zero
leading_of (d ∷ c ∷ text) some digits e zero =
    let first : eqb d 48 ≡ true = eq-eqb d 48 zero in
    let second : is_digit c ≡ true = digit_true c digits.1.0 in
    let both : (eqb d 48 && is_digit c) ≡ true = rw (first, second) refl in
    let wrong : true ≡ false = sym both ∙ e in
    absurd cc

no_leading : (text : List ℕ) → HasNoLeadingZero text → has_leading_zero text ≡ false
no_leading [] h = refl
no_leading (d ∷ []) h = refl
no_leading (d ∷ c ∷ text) h = step (eqb d 48) refl
  where
    step : (t : Bool) → t ≡ eqb d 48 → (t && is_digit c) ≡ false
    step true is =
        let one : length (d ∷ c ∷ text) ≡ 1 = ap length (h (eqb-true d 48 (sym is))) in
        absurd (omega (arith, one))
    step false is = refl

pub other_takes : (bytes digits : List ℕ) → other_at bytes ≡ Some digits → IsOtherVersion bytes
unfolding other_at
other_takes bytes digits e =
    let r = bind_some (word_at (codes "jasign ") bytes) _ digits e in
    let l = bind_some (line_at r.0) (λ x. where_true (is_other x.0) (Some x.0)) digits r.2 in
    let test = where_is (is_other l.0.0) (Some l.0.0) digits l.2 in
    let text = l.0.0 in
    let a = and_parts (not (eqb (length text) 0) && list_all is_digit text && not (has_leading_zero text))
    (not (bytes_eq text (codes "1"))) test.0 in
    let b = and_parts (not (eqb (length text) 0) && list_all is_digit text) (not (has_leading_zero text)) a.0 in
    let c = and_parts (not (eqb (length text) 0)) (list_all is_digit text) b.0 in
    let some : length text ≢ 0 = eqb-false (length text) 0 (not_true (eqb (length text) 0) c.0) in
    let many : 0 < length text = omega (arith, some) in
    let are = digits_are text c.1 in
    let parts = (line_takes r.0 l.0 l.1).parts in
    record {
      digits = text;
      rest = l.0.1;
      parts = word_takes (codes "jasign ") bytes r.0 r.1 ∙ ap (λ (v : List ℕ). codes "jasign " ++ v) parts
          ∙ sym (append_assoc (codes "jasign ") text (10 ∷ l.0.1));
      some = many;
      are_digits = are;
      leading = leading_of text many are (not_true (has_leading_zero text) b.1);
      other = λ same.
          let yes_one : bytes_eq text (codes "1") ≡ true = (bytes_eq-Decides text (codes "1")).1 same in
          let wrong : true ≡ false = sym yes_one ∙ not_true (bytes_eq text (codes "1")) a.1 in
          absurd cc;
    }

not_one : (text : List ℕ) → text ≢ codes "1" → bytes_eq text (codes "1") ≡ false
not_one text other = step (bytes_eq text (codes "1")) refl
  where
    step : (t : Bool) → bytes_eq text (codes "1") ≡ t → t ≡ false
    step true e = absurd (other ((bytes_eq-Decides text (codes "1")).0 e))
    step false e = refl

is_other_of : (bytes : List ℕ) (h : IsOtherVersion bytes) → is_other h.digits ≡ true
is_other_of bytes h =
    let some : eqb (length h.digits) 0 ≡ false = nonzero (length h.digits) h.some in
    rw (some, are_digits h.digits h.are_digits, no_leading h.digits h.leading, not_one h.digits h.other) refl
  where
    nonzero : (n : ℕ) → 0 < n → eqb n 0 ≡ false
    nonzero n less = grind (arith, nat_tests)

pub other_none : (bytes : List ℕ) → other_at bytes ≡ None → IsOtherVersion bytes → ⊥
unfolding other_at
other_none bytes e h =
    let rest = h.digits ++ 10 ∷ h.rest in
    let word : word_at (codes "jasign ") bytes ≡ Some rest
    = ap (word_at (codes "jasign ")) (h.parts ∙ append_assoc (codes "jasign ") h.digits (10 ∷ h.rest))
    ∙ word_again (codes "jasign ") rest in
    let line : line_at rest ≡ Some (h.digits, h.rest) = line_again h.digits h.rest (no_newlines h.digits h.are_digits) in
    let found : other_at bytes ≡ Some h.digits = rw (word, line, is_other_of bytes h) refl in
    let wrong : ◌≡◌ {A = Option (List ℕ)} None (Some h.digits) = sym e ∙ found in
    absurd cc

pub other_no_report : (bytes : List ℕ) → IsOtherVersion bytes → (r : Findings) → IsReportText bytes r → ⊥
other_no_report bytes h r t =
    let s = parts_of r in
    let behind = (line_of (codes "design" ++ sizes_words r.sizes) ++ texts_from prop_form (λ k _. k + 1) 0 r.lines)
    ++ (behind_head s.0).text s.1 in
    let text : bytes ≡ codes "jasign 1" ++ 10 ∷ behind = t.text ∙ sym (parts_text r) in
    let one = line_one (codes "jasign " ++ h.digits) (codes "jasign 1") h.rest behind
    (IsOneLine-append (codes "jasign ") h.digits (IsOneLine-tested (codes "jasign ") refl) (no_newlines h.digits h.are_digits))
    (IsOneLine-tested (codes "jasign 1") refl)
    (sym h.parts ∙ text) in
    h.other (ap (drop 7) one.0)

-- ---- what a test of an option says

pub some_of : {A B : Type 0} (f : A → B) (o : Option A) (b : Bool) (read : Option B) → is_some o ≡ b → b ≡ true
    → read ≡ option_map f o → (x : B) × (read ≡ Some x)
some_of f (Some x) b read is e h = (f x, h)
some_of f None b read is e h = (let wrong : false ≡ true = is ∙ e in absurd cc)

pub none_of : {A B : Type 0} (f : A → B) (o : Option A) (b : Bool) (read : Option B) → is_some o ≡ b → b ≡ false
    → read ≡ option_map f o → read ≡ None
none_of f (Some x) b read is e h = (let wrong : true ≡ false = is ∙ e in absurd cc)
none_of f None b read is e h = h
