-- Stimuli in a report: what is taken, and where reading stops.
use Rattle.std.proofs.Common.{◌≡◌, ℕ, zero, suc, ◌+◌, ◌<◌, ◌≤◌, ◌^◌, Bool, true, false, cond, List, [], ◌∷◌, ◌++◌, length, length-append, map, drop, Option, Some, None, slice_get, get_or, refl, sym, ap, subst, ◌∙◌, append_assoc, append-nil, inl, inr, arith}
use Rattle.std.specs.Prelude.{⊤, codes, decimal, IfSome}
use Rattle.std.specs.List.{AllByRecursion, flat_map}
use Rattle.std.proofs.lemmas.List.{length-map}
use Rattle.std.proofs.lemmas.List.Concat.{flat_map-cons}
use Rattle.std.proofs.lemmas.Option.{get_or_from_slice_get, slice_get_within}
use Rattle.std.proofs.lemmas.Grind.{flat_map-append}
use Rattle.ja_base.specs.Runs.{Trace}
use Rattle.ja_text.specs.Lines.{IsOneLine}
use Rattle.local_stim.specs.StimulusText.{bit_character, row_line}
use Rattle.store_core.specs.declared.mark.Mark.{Mark}
use Rattle.store_core.specs.MarkKinds.{fails}
use Rattle.report.specs.declared.parts.PropLine.{PropLine}
use Rattle.report.specs.declared.parts.PropStim.{PropStim}
use Rattle.report.specs.declared.parts.Sizes.{Sizes}
use Rattle.report.specs.Findings.{marks_of, failing_from}
use Rattle.report.specs.Reports.{HasWidths, line_of, stimulus_lines}
use Rattle.report.specs.Forms.{Form, Takes, Stops, then, times, texts_from, FitFrom}
use Rattle.report.specs.Sections.{words_form, named_form, row_form, next_row_words, next_row_form, rows_form, AreInputs, inputs_form, names_form, stimulus_form, AreStimuliOf, where_form, AreStimuli, stimuli_form}
use Rattle.report.proofs.FormLemmas.{IsSound, HasSome, IsPart, same_stops, same_sound, stops_first, stops_behind, then_sound, line_sound, read_words}
use Rattle.report.proofs.TimesLemmas.{IsMet, state_behind, times_none, times_more, times_ends, times_sound}
use Rattle.report.proofs.DecodeLemmas.{IsOneLine-tested, IsOneLine-named, words_words, row_read, next_row_read}
use Rattle.report.proofs.SectionLemmas.{some_words, some_row, some_next_row}

-- ---- sound lines

named_sound : (word : List ℕ) (p : ℕ) → IsOneLine word → p < 2 ^ 32 → IsSound (named_form word p)
named_sound word p one small =
    line_sound {X = ⊤} (λ _. ⊤) (λ _. word ++ decimal p) (words_words (word ++ decimal p) (IsOneLine-named word p one small))
    (some_words (word ++ decimal p))

one_sound : IsSound (words_form (codes "1"))
one_sound = line_sound {X = ⊤} (λ _. ⊤) (λ _. codes "1") (words_words (codes "1") (IsOneLine-tested (codes "1") refl))
    (some_words (codes "1"))

pub stimulus_word : IsOneLine (codes "stimulus b")
stimulus_word = IsOneLine-tested (codes "stimulus b") refl

pub property_letter : IsOneLine (codes "b")
property_letter = IsOneLine-tested (codes "b") refl

pub head_sound : (p : ℕ) → p < 2 ^ 32 → IsSound (named_form (codes "stimulus b") p)
head_sound p small = named_sound (codes "stimulus b") p stimulus_word small

pub tail_sound : (p : ℕ) → p < 2 ^ 32 → IsSound (then (words_form (codes "1")) (λ _. named_form (codes "b") p))
tail_sound p small = then_sound (words_form (codes "1")) (λ _. named_form (codes "b") p) one_sound
    (λ _ _. named_sound (codes "b") p property_letter small)

pub letter_sound : (p : ℕ) → p < 2 ^ 32 → IsSound (named_form (codes "b") p)
letter_sound p small = named_sound (codes "b") p property_letter small

pub ones_sound : IsSound (words_form (codes "1"))
ones_sound = one_sound

pub names_sound : (p : ℕ) → p < 2 ^ 32 → IsSound (names_form p)
names_sound p small =
    then_sound (named_form (codes "stimulus b") p) (λ _. then (words_form (codes "1")) (λ _. named_form (codes "b") p))
    (head_sound p small) (λ _ _. tail_sound p small)

pub row_sound : (width : ℕ) → IsSound (row_form width)
row_sound width = line_sound (λ row. length row ≡ width) (map bit_character) (read_words (row_read width)) (some_row width)

next_row_sound : (width : ℕ) → IsSound (next_row_form width)
next_row_sound width = line_sound (λ next. IfSome next (λ row. length row ≡ width)) next_row_words
    (read_words (next_row_read width)) (some_next_row width)

-- ---- rows up to a dot

-- what follows a line: nothing behind the dot, and rows behind a row
rows_after : ℕ → Option (List Bool) → Form (List (List Bool))
rows_after width None = record { Fits = λ rows. rows ≡ []; text = λ _. [] }
rows_after width (Some row) = rows_form width

rows_there : (width : ℕ) → IsPart (then (next_row_form width) (rows_after width)) (rows_form width)
unfolding rows_after
rows_there width (None, rows) fits = ([], tt, refl)
rows_there width (Some row, rows) fits = (
  row ∷ rows,
  (fits.0, fits.1),
  ap (λ (v : List ℕ). v ++ codes ".\n") (flat_map-cons row_line row rows)
      ∙ append_assoc (row_line row) (flat_map row_line rows) (codes ".\n"),
)

rows_back : (width : ℕ) → IsPart (rows_form width) (then (next_row_form width) (rows_after width))
unfolding rows_after
rows_back width [] fits = ((None, []), (tt, refl), refl)
rows_back width (row ∷ rows) fits = (
  (Some row, rows),
  (fits.0, fits.1),
  sym (ap (λ (v : List ℕ). v ++ codes ".\n") (flat_map-cons row_line row rows)
      ∙ append_assoc (row_line row) (flat_map row_line rows) (codes ".\n")),
)

after_some : (width : ℕ) (next : Option (List Bool)) → HasSome (rows_after width next)
unfolding rows_after
after_some width None = ([], refl)
after_some width (Some row) = ([], tt)

rows_stop : (width : ℕ) (bytes : List ℕ) (left : ℕ) → Stops (next_row_form width) bytes left → Stops (rows_form width) bytes left
rows_stop width bytes left stop =
    same_stops (then (next_row_form width) (rows_after width)) (rows_form width) (rows_there width) (rows_back width) bytes left
    (stops_first (next_row_form width) (rows_after width) (λ next fits. after_some width next) bytes left stop)

rows_stop_behind : (width : ℕ) (bytes : List ℕ) (row : List Bool) (mid : List ℕ) (left : ℕ) → length row ≡ width
    → bytes ≡ row_line row ++ mid
    → Stops (rows_form width) mid left → Stops (rows_form width) bytes left
unfolding rows_after
rows_stop_behind width bytes row mid left len parts stop =
    same_stops (then (next_row_form width) (rows_after width)) (rows_form width) (rows_there width) (rows_back width) bytes left
    (stops_behind (next_row_form width) (rows_after width) (next_row_sound width) bytes (Some row) mid left
    (record { fits = len; parts = parts }) stop)

-- reading stops behind these rows
rows_stop_later : (width : ℕ) (bytes : List ℕ) (rows : List (List Bool)) (mid : List ℕ) (left : ℕ)
    → AllByRecursion (λ row. length row ≡ width) rows
    → bytes ≡ flat_map row_line rows ++ mid → Stops (next_row_form width) mid left → Stops (rows_form width) bytes left
rows_stop_later width bytes [] mid left fits parts stop = rows_stop width bytes left
    (subst (λ (v : List ℕ). Stops (next_row_form width) v left) (sym parts) stop)
rows_stop_later width bytes (row ∷ rows) mid left fits parts stop =
    let behind = flat_map row_line rows ++ mid in
    rows_stop_behind width bytes row behind left fits.0
    (parts ∙ ap (λ (v : List ℕ). v ++ mid) (flat_map-cons row_line row rows)
    ∙ append_assoc (row_line row) (flat_map row_line rows) mid)
    (rows_stop_later width behind rows mid left fits.1 refl stop)

three : (p q r s : List ℕ) → p ++ q ++ r ++ s ≡ p ++ (q ++ r ++ s)
three p q r s = simp append_assoc

rows_cons : (row : List Bool) (rows : List (List Bool)) (rest : List ℕ)
    → flat_map row_line (row ∷ rows) ++ codes ".\n" ++ rest ≡ row_line row ++ (flat_map row_line rows ++ codes ".\n" ++ rest)
rows_cons row rows rest =
    ap (λ (v : List ℕ). v ++ codes ".\n" ++ rest) (flat_map-cons row_line row rows)
    ∙ three (row_line row) (flat_map row_line rows) (codes ".\n") rest

-- a dot is no row
no_row : (width : ℕ) (row : List Bool) (a behind : List ℕ) → length row ≡ width → codes ".\n" ++ a ≡ row_line row ++ behind → ⊥
no_row width row a behind len e =
    let wrong : ◌≡◌ {A = Option (List Bool)} None (Some row) = ((next_row_sound width).one None a (Some row) behind tt len e).0 in
    absurd cc

rows_one : (width : ℕ) (xs : List (List Bool)) (a : List ℕ) (ys : List (List Bool)) (b : List ℕ)
    → AllByRecursion (λ row. length row ≡ width) xs
    → AllByRecursion (λ row. length row ≡ width) ys → flat_map row_line xs ++ codes ".\n" ++ a ≡ flat_map row_line ys ++ codes
    ".\n" ++ b → (xs ≡ ys) × (a ≡ b)
rows_one width [] a [] b fx fy e = (refl, ((next_row_sound width).one None a None b tt tt e).1)
rows_one width [] a (y ∷ ys) b fx fy e = absurd
    (no_row width y a (flat_map row_line ys ++ codes ".\n" ++ b) fy.0 (e ∙ rows_cons y ys b))
rows_one width (x ∷ xs) a [] b fx fy e = absurd
    (no_row width x b (flat_map row_line xs ++ codes ".\n" ++ a) fx.0 (sym e ∙ rows_cons x xs a))
rows_one width (x ∷ xs) a (y ∷ ys) b fx fy e =
    let behind_x = flat_map row_line xs ++ codes ".\n" ++ a in
    let behind_y = flat_map row_line ys ++ codes ".\n" ++ b in
    let first = (row_sound width).one x behind_x y behind_y fx.0 fy.0 (sym (rows_cons x xs a) ∙ e ∙ rows_cons y ys b) in
    let others = rows_one width xs a ys b fx.1 fy.1 first.1 in
    (ap (λ (z : List Bool). z ∷ xs) first.0 ∙ ap (λ (zs : List (List Bool)). y ∷ zs) others.0, others.1)

pub rows_sound : (width : ℕ) → IsSound (rows_form width)
rows_sound width = record {
  one = λ xs a ys b fx fy e. rows_one width xs a ys b fx fy e;
  some = ([], tt);
  lines = λ rows fits. inr
      (flat_map row_line rows ++ codes ".", sym (append_assoc (flat_map row_line rows) (codes ".") (10 ∷ [])));
}

-- ---- one row or more up to the dot

inputs_there : (width : ℕ) → IsPart (then (row_form width) (λ _. rows_form width)) (inputs_form width)
inputs_there width (row, rows) fits = (
  row ∷ rows,
  record { some = omega arith; widths = (fits.0, fits.1) },
  ap (λ (v : List ℕ). v ++ codes ".\n") (flat_map-cons row_line row rows)
      ∙ append_assoc (row_line row) (flat_map row_line rows) (codes ".\n"),
)

inputs_back : (width : ℕ) → IsPart (inputs_form width) (then (row_form width) (λ _. rows_form width))
inputs_back width [] fits = absurd (omega (arith, fits.some))
inputs_back width (row ∷ rows) fits = (
  (row, rows),
  (fits.widths.0, fits.widths.1),
  sym (ap (λ (v : List ℕ). v ++ codes ".\n") (flat_map-cons row_line row rows)
      ∙ append_assoc (row_line row) (flat_map row_line rows) (codes ".\n")),
)

pub inputs_sound : (width : ℕ) → IsSound (inputs_form width)
inputs_sound width = record {
  one = λ xs a ys b fx fy e. rows_one width xs a ys b fx.widths fy.widths e;
  some = ((row_sound width).some.0 ∷ [], record { some = omega arith; widths = ((row_sound width).some.1, tt) });
  lines = λ rows fits. (rows_sound width).lines rows fits.widths;
}

-- rows that were read, one at least
pub record HasRows (width : ℕ) (bytes : List ℕ) (rows : List (List Bool)) (rest : List ℕ) : Type 0 where
  pub fits : AreInputs width rows
  pub parts : bytes ≡ flat_map row_line rows ++ rest

pub rows_begin : (width : ℕ) (bytes : List ℕ) (row : List Bool) (rest : List ℕ) (rows : List (List Bool))
    → Takes (row_form width) bytes row rest → rows ≡ row ∷ []
    → HasRows width bytes rows rest
rows_begin width bytes row rest rows t e =
    let one : flat_map row_line (row ∷ []) ≡ row_line row = flat_map-cons row_line row [] ∙ append-nil (row_line row) in
    subst (λ (rs : List (List Bool)). HasRows width bytes rs rest) (sym e)
    (record {
      fits = record { some = omega arith; widths = (t.fits, tt) };
      parts = t.parts
          ∙ ap (λ (v : List ℕ). v ++ rest) (sym one);
    })

all_push : {A : Type 0} (P : A → Type 0) (xs : List A) (x : A) → AllByRecursion P xs → P x → AllByRecursion P (xs ++ x ∷ [])
all_push P [] x h p = (p, tt)
all_push P (y ∷ xs) x h p = (h.0, all_push P xs x h.1 p)

pub rows_more : (width : ℕ) (bytes : List ℕ) (rows : List (List Bool)) (rest : List ℕ) (row : List Bool) (after : List ℕ)
    (more : List (List Bool)) → HasRows width bytes rows rest
    → Takes (next_row_form width) rest (Some row) after → more ≡ rows ++ row ∷ [] → HasRows width bytes more after
rows_more width bytes rows rest row after more h t e =
    let one : flat_map row_line (row ∷ []) ≡ row_line row = flat_map-cons row_line row [] ∙ append-nil (row_line row) in
    let text : flat_map row_line (rows ++ row ∷ []) ≡ flat_map row_line rows ++ row_line row
    = flat_map-append row_line rows (row ∷ []) ∙ ap (λ (v : List ℕ). flat_map row_line rows ++ v) one in
    subst (λ (rs : List (List Bool)). HasRows width bytes rs after) (sym e)
    (record {
      fits = record {
        some = omega (arith, h.fits.some, length-append rows (row ∷ []));
        widths = all_push (λ r. length r ≡ width)
            rows row h.fits.widths t.fits;
      };
      parts = h.parts ∙ ap (λ (v : List ℕ). flat_map row_line rows ++ v) t.parts
          ∙ sym (append_assoc (flat_map row_line rows) (row_line row) after)
          ∙ ap (λ (v : List ℕ). v ++ after) (sym text);
    })

pub rows_done : (width : ℕ) (bytes : List ℕ) (rows : List (List Bool)) (rest after : List ℕ) → HasRows width bytes rows rest
    → Takes (next_row_form width) rest None after
    → Takes (inputs_form width) bytes rows after
rows_done width bytes rows rest after h t = record {
  fits = h.fits;
  parts = h.parts ∙ ap (λ (v : List ℕ). flat_map row_line rows ++ v) t.parts
      ∙ sym (append_assoc (flat_map row_line rows) (codes ".\n") after);
}

pub inputs_stop_first : (width : ℕ) (bytes : List ℕ) (left : ℕ) → Stops (row_form width) bytes left
    → Stops (inputs_form width) bytes left
inputs_stop_first width bytes left stop =
    same_stops (then (row_form width) (λ _. rows_form width)) (inputs_form width) (inputs_there width) (inputs_back width) bytes
    left
    (stops_first (row_form width) (λ _. rows_form width) (λ _ _. (rows_sound width).some) bytes left stop)

pub inputs_stop : (width : ℕ) (bytes : List ℕ) (rows : List (List Bool)) (rest : List ℕ) (left : ℕ)
    → HasRows width bytes rows rest → Stops (next_row_form width) rest left
    → Stops (inputs_form width) bytes left
inputs_stop width bytes [] rest left h stop = absurd (omega (arith, h.fits.some))
inputs_stop width bytes (row ∷ rows) rest left h stop =
    let mid = flat_map row_line rows ++ rest in
    let first : Takes (row_form width) bytes row mid
    = record {
      fits = h.fits.widths.0;
      parts = h.parts ∙ ap (λ (v : List ℕ). v ++ rest) (flat_map-cons row_line row rows)
          ∙ append_assoc (row_line row) (flat_map row_line rows) rest;
    } in
    same_stops (then (row_form width) (λ _. rows_form width)) (inputs_form width) (inputs_there width) (inputs_back width) bytes
    left
    (stops_behind (row_form width) (λ _. rows_form width) (row_sound width) bytes row mid left first
    (rows_stop_later width mid rows rest left h.fits.widths.1 refl stop))

-- a line was taken, so less is left
pub line_shorter : (width : ℕ) (rest : List ℕ) (next : Option (List Bool)) (after : List ℕ)
    → Takes (next_row_form width) rest next after → length after < length rest
line_shorter width rest next after t =
    omega (
      arith,
      ap length t.parts,
      length-append (next_row_words next ++ 10 ∷ []) after,
      length-append (next_row_words next)
          (10 ∷ []),
    )

-- ---- a stimulus

-- its parts as they are read
abbrev pub parts_form : Sizes → ℕ → Form ((⊤ × (⊤ × ⊤)) × (List Bool × List (List Bool)))
parts_form s p = then (names_form p) (λ _. then (row_form s.latches) (λ _. inputs_form s.inputs))

-- the text of the parts, in the one order and the other
six : (a b c d e : List ℕ) → (a ++ (b ++ c)) ++ (d ++ e) ≡ a ++ (b ++ (c ++ (d ++ e)))
six a b c d e = simp append_assoc

stimulus_parts : (p : ℕ) (first : List Bool) (inputs : List (List Bool))
    → stimulus_lines (record { prop = p; stim = record { first = first; inputs = inputs } })
    ≡ (line_of (codes "stimulus b" ++ decimal p) ++ (line_of (codes "1") ++ line_of (codes "b" ++ decimal p)))
    ++ (row_line first ++ (flat_map row_line inputs ++ codes ".\n"))
stimulus_parts p first inputs =
    let named = line_of (codes "stimulus b" ++ decimal p) in
    let f = map bit_character first in
    let rows = flat_map row_line inputs in
    let letter = 98 ∷ decimal p in
    ap (λ (v : List ℕ). named ++ v) (inner letter f rows)
    ∙ sym (six named (codes "1\n") (line_of letter) (row_line first) (rows ++ codes ".\n"))
  where
    inner : (letter f rows : List ℕ) → 49 ∷ 10 ∷ letter ++ 10 ∷ f ++ 10 ∷ rows ++ 46 ∷ 10 ∷ []
        ≡ codes "1\n" ++ ((letter ++ 10 ∷ []) ++ ((f ++ 10 ∷ []) ++ (rows ++ 46 ∷ 10 ∷ [])))
    inner letter f rows =
        ap (λ (v : List ℕ). 49 ∷ 10 ∷ v)
        (append_assoc (letter ++ 10 ∷ f) (10 ∷ rows) (46 ∷ 10 ∷ []) ∙ append_assoc letter (10 ∷ f) (10 ∷ (rows ++ 46 ∷ 10 ∷ []))
        ∙ ap (λ (v : List ℕ). letter ++ 10 ∷ v) (sym (append_assoc f (10 ∷ []) (rows ++ 46 ∷ 10 ∷ [])))
        ∙ sym (append_assoc letter (10 ∷ []) ((f ++ 10 ∷ []) ++ (rows ++ 46 ∷ 10 ∷ []))))

stimulus_there : (s : Sizes) (p : ℕ) → IsPart (parts_form s p) (stimulus_form s p)
stimulus_there s p x fits =
    let stim : Trace = record { first = x.1.0; inputs = x.1.1 } in (
      record { prop = p; stim = stim },
      record { property = refl; widths = record { first = fits.1.0; rows = fits.1.1.widths; some = fits.1.1.some } },
      stimulus_parts p x.1.0 x.1.1,
    )

stimulus_back : (s : Sizes) (p : ℕ) → IsPart (stimulus_form s p) (parts_form s p)
stimulus_back s p x fits = (
  ((tt, (tt, tt)), (x.stim.first, x.stim.inputs)),
  ((tt, (tt, tt)), (fits.widths.first, record { some = fits.widths.some; widths = fits.widths.rows })),
  sym (ap (λ (q : ℕ). stimulus_lines (record { prop = q; stim = x.stim })) fits.property
      ∙ stimulus_parts p x.stim.first x.stim.inputs),
)

pub trace_sound : (s : Sizes) → IsSound (then (row_form s.latches) (λ _. inputs_form s.inputs))
trace_sound s = then_sound (row_form s.latches) (λ _. inputs_form s.inputs) (row_sound s.latches) (λ _ _. inputs_sound s.inputs)

parts_sound : (s : Sizes) (p : ℕ) → p < 2 ^ 32 → IsSound (parts_form s p)
parts_sound s p small = then_sound (names_form p) (λ _. then (row_form s.latches) (λ _. inputs_form s.inputs))
    (names_sound p small) (λ _ _. trace_sound s)

pub stimulus_sound : (s : Sizes) (p : ℕ) → p < 2 ^ 32 → IsSound (stimulus_form s p)
unfolding stimulus_back
stimulus_sound s p small =
    same_sound (parts_form s p) (stimulus_form s p) (λ x. record { prop = p; stim = record { first = x.1.0; inputs = x.1.1 } })
    (stimulus_there s p) (stimulus_back s p)
    (λ x fits. ap (λ (q : ℕ). record { prop = q; stim = x.stim }) (sym fits.property)) (parts_sound s p small)

pub stimulus_stops : (s : Sizes) (p : ℕ) (bytes : List ℕ) (left : ℕ) → Stops (parts_form s p) bytes left
    → Stops (stimulus_form s p) bytes left
stimulus_stops s p bytes left stop = same_stops (parts_form s p) (stimulus_form s p) (stimulus_there s p) (stimulus_back s p)
    bytes left stop

pub stimulus_taken : (s : Sizes) (p : ℕ) (bytes : List ℕ) (first : List Bool) (inputs : List (List Bool)) (rest : List ℕ)
    → Takes (parts_form s p) bytes ((tt, (tt, tt)), (first, inputs)) rest
    → Takes (stimulus_form s p) bytes (record { prop = p; stim = record { first = first; inputs = inputs } }) rest
unfolding stimulus_there
stimulus_taken s p bytes first inputs rest t =
    let y = stimulus_there s p ((tt, (tt, tt)), (first, inputs)) t.fits in
    record { fits = y.1; parts = t.parts ∙ ap (λ (v : List ℕ). v ++ rest) (sym y.2) }

-- ---- one where the property fails

where_there : (s : Sizes) (p : ℕ) → IsPart (stimulus_form s p) (where_form true s p)
where_there s p x fits = (x ∷ [], fits, flat_map-cons stimulus_lines x [] ∙ append-nil (stimulus_lines x))

where_back : (s : Sizes) (p : ℕ) → IsPart (where_form true s p) (stimulus_form s p)
where_back s p [] fits = absurd fits
where_back s p (x ∷ []) fits = (x, fits, sym (flat_map-cons stimulus_lines x [] ∙ append-nil (stimulus_lines x)))
where_back s p (x ∷ y ∷ xs) fits = absurd fits

where_same : (s : Sizes) (p : ℕ) (xs : List PropStim) (fits : AreStimuliOf true s p xs) → (where_back s p xs fits).0 ∷ [] ≡ xs
unfolding where_back
where_same s p [] fits = absurd fits
where_same s p (x ∷ []) fits = refl
where_same s p (x ∷ y ∷ xs) fits = absurd fits

pub where_sound : (b : Bool) (s : Sizes) (p : ℕ) → p < 2 ^ 32 → IsSound (where_form b s p)
where_sound false s p small = record {
  one = λ xs a ys b fx fy e.
      let text : a ≡ b = ap (λ (v : List PropStim). flat_map stimulus_lines v ++ a) (sym fx) ∙ e
      ∙ ap (λ (v : List PropStim). flat_map stimulus_lines v ++ b) fy in
      (fx ∙ sym fy, text);
  some = ([], refl);
  lines = λ xs fits. inl (ap (flat_map stimulus_lines) fits);
}
where_sound true s p small =
    same_sound (stimulus_form s p) (where_form true s p) (λ x. x ∷ []) (where_there s p) (where_back s p) (where_same s p)
    (stimulus_sound s p small)

pub where_stops : (s : Sizes) (p : ℕ) (bytes : List ℕ) (left : ℕ) → Stops (stimulus_form s p) bytes left
    → Stops (where_form true s p) bytes left
where_stops s p bytes left stop = same_stops (stimulus_form s p) (where_form true s p) (where_there s p) (where_back s p) bytes
    left stop

pub where_none : (s : Sizes) (p : ℕ) (bytes : List ℕ) → Takes (where_form false s p) bytes [] bytes
where_none s p bytes = record { fits = refl; parts = refl }

pub where_taken : (s : Sizes) (p : ℕ) (bytes : List ℕ) (x : PropStim) (rest : List ℕ) → Takes (stimulus_form s p) bytes x rest
    → Takes (where_form true s p) bytes (x ∷ []) rest
where_taken s p bytes x rest t =
    record {
      fits = t.fits;
      parts = t.parts
          ∙ ap (λ (v : List ℕ). v ++ rest) (sym (flat_map-cons stimulus_lines x [] ∙ append-nil (stimulus_lines x)));
    }

-- ---- all of them

-- the property that is due, and the marks from its own on
abbrev pub Due : Type 0
Due = ℕ × List Mark

abbrev pub does_fail : List Mark → Bool
does_fail [] = false
does_fail (m ∷ marks) = fails m

abbrev pub others : List Mark → List Mark
others [] = []
others (m ∷ marks) = marks

abbrev pub due_form : Sizes → Due → Form (List PropStim)
due_form s d = where_form (does_fail d.1) s d.0

abbrev pub due_next : Due → List PropStim → Due
due_next d xs = (d.0 + 1, others d.1)

abbrev pub Met : ℕ → Due → Type 0
Met n d = d.0 + n ≤ 4294967296

due_met : (s : Sizes) → IsMet (due_form s) due_next Met
due_met s = record {
  sound = λ n d m. where_sound (does_fail d.1) s d.0 (omega (arith, m));
  goes_on = λ n d xs m fits. omega (arith, m);
}

abbrev pub flat : List (List PropStim) → List PropStim
flat [] = []
flat (xs ∷ xss) = xs ++ flat xss

flat-push : (xss : List (List PropStim)) (xs : List PropStim) → flat (xss ++ xs ∷ []) ≡ flat xss ++ xs
flat-push [] xs = append-nil xs
flat-push (ys ∷ xss) xs = ap (λ (v : List PropStim). ys ++ v) (flat-push xss xs) ∙ sym (append_assoc ys (flat xss) xs)

-- the stimuli of so many properties were read
pub record HasStimuli (s : Sizes) (marks : List Mark) (bytes : List ℕ) (i : ℕ) (stimuli : List PropStim) (rest : List ℕ) : Type 0
  where
    pub parts : List (List PropStim)
    pub taken : Takes (times (due_form s) due_next i (0, marks)) bytes parts rest
    pub all : stimuli ≡ flat parts

pub stimuli_begin : (s : Sizes) (marks : List Mark) (bytes : List ℕ) (stimuli : List PropStim) → stimuli ≡ []
    → HasStimuli s marks bytes 0 stimuli bytes
stimuli_begin s marks bytes stimuli e = record { parts = []; taken = times_none (due_form s) due_next (0, marks) bytes; all = e }

due_state : (s : Sizes) (q : ℕ) (marks : List Mark) (xss : List (List PropStim))
    → state_behind (due_form s) due_next (q, marks) xss ≡ (q + length xss, drop (length xss) marks)
due_state s q marks [] = ap (λ (k : ℕ). (k, marks)) (omega arith)
due_state s q [] (xs ∷ xss) = due_state s (q + 1) [] xss ∙ ap (λ (k : ℕ). (k, drop (length xss) [])) (omega arith)
    ∙ ap (λ (v : List Mark). (q + length (xs ∷ xss), v)) (drop_nil (length xss))
  where
    drop_nil : (n : ℕ) → ◌≡◌ {A = List Mark} (drop n []) []
    drop_nil zero = refl
    drop_nil (suc n) = refl
due_state s q (m ∷ marks) (xs ∷ xss) = due_state s (q + 1) marks xss ∙ ap (λ (k : ℕ). (k, drop (length xss) marks)) (omega arith)

-- the mark at a place is the first of those from there on
mark_due : (lines : List PropLine) (i : ℕ) (l : PropLine) → i < length lines → l ≡ get_or lines i l
    → does_fail (drop i (marks_of lines)) ≡ fails l.mark
mark_due [] i l less e = absurd (omega (arith, less))
mark_due (x ∷ lines) zero l less e = ap (λ (k : PropLine). fails k.mark) (sym e)
mark_due (x ∷ lines) (suc i) l less e = mark_due lines i l (omega (arith, less)) e

-- the form that is due behind so many properties
due_is : (s : Sizes) (lines : List PropLine) (i : ℕ) (l : PropLine) (xss : List (List PropStim)) → slice_get lines i ≡ Some l
    → length xss ≡ i
    → due_form s (state_behind (due_form s) due_next (0, marks_of lines) xss) ≡ where_form (fails l.mark) s i
due_is s lines i l xss at len =
    let state : state_behind (due_form s) due_next (0, marks_of lines) xss ≡ (i, drop i (marks_of lines))
    = due_state s 0 (marks_of lines) xss ∙ ap (λ (k : ℕ). (k, drop (length xss) (marks_of lines))) (omega (arith, len))
    ∙ ap (λ (k : ℕ). (i, drop k (marks_of lines))) len in
    let mark = mark_due lines i l (slice_get_within lines i l at) (sym (get_or_from_slice_get lines i l l at)) in
    ap (due_form s) state ∙ ap (λ (b : Bool). where_form b s i) mark

pub stimuli_more : (s : Sizes) (lines : List PropLine) (bytes : List ℕ) (i : ℕ) (l : PropLine) (stimuli : List PropStim)
    (rest : List ℕ) (xs : List PropStim) (after : List ℕ)
    (more : List PropStim) → slice_get lines i ≡ Some l → HasStimuli s (marks_of lines) bytes i stimuli rest
    → Takes (where_form (fails l.mark) s i) rest xs after
    → more ≡ stimuli ++ xs → HasStimuli s (marks_of lines) bytes (i + 1) more after
stimuli_more s lines bytes i l stimuli rest xs after more at h t e =
    let form = due_is s lines i l h.parts at h.taken.fits.as_many in
    record {
      parts = h.parts ++ xs ∷ [];
      taken = times_more (due_form s) due_next (0, marks_of lines) bytes i h.parts rest xs after h.taken
          (subst (λ (F : Form (List PropStim)). Takes F rest xs after) (sym form) t);
      all = e ∙ ap (λ (v : List PropStim). v ++ xs) h.all ∙ sym (flat-push h.parts xs);
    }

-- ---- the stimuli of all properties as one list

text_flat : (s : Sizes) (d : Due) (xss : List (List PropStim))
    → flat_map stimulus_lines (flat xss) ≡ texts_from (due_form s) due_next d xss
text_flat s d [] = refl
text_flat s d (xs ∷ xss) =
    flat_map-append stimulus_lines xs (flat xss)
    ∙ ap (λ (v : List ℕ). flat_map stimulus_lines xs ++ v) (text_flat s (due_next d xs) xss)

-- the property, where it fails, in front of others
abbrev failing_with : Bool → ℕ → List ℕ → List ℕ
failing_with b p ps = cond b (p ∷ ps) ps

with_more : (b : Bool) (s : Sizes) (p : ℕ) (xs ys : List PropStim) (ps : List ℕ) → AreStimuliOf b s p xs
    → map (λ (x : PropStim). x.prop) ys ≡ ps → AllByRecursion (HasWidths s) ys
    → (map (λ (x : PropStim). x.prop) (xs ++ ys) ≡ failing_with b p ps) × AllByRecursion (HasWidths s) (xs ++ ys)
with_more false s p [] ys ps fits e widths = (e, widths)
with_more false s p (x ∷ xs) ys ps fits e widths = absurd cc
with_more true s p [] ys ps fits e widths = absurd fits
with_more true s p (x ∷ []) ys ps fits e widths = (
  ap (λ (q : ℕ). q ∷ map (λ (x : PropStim). x.prop) ys) fits.property
      ∙ ap (λ (qs : List ℕ). p ∷ qs) e,
  (fits.widths, widths),
)
with_more true s p (x ∷ y ∷ xs) ys ps fits e widths = absurd fits

flat_stimuli : (s : Sizes) (p : ℕ) (marks : List Mark) (xss : List (List PropStim)) → length xss ≡ length marks
    → FitFrom (due_form s) due_next (p, marks) xss
    → AreStimuli s p marks (flat xss)
flat_stimuli s p [] [] len fits = record { props = refl; widths = tt }
flat_stimuli s p [] (xs ∷ xss) len fits = absurd (omega (arith, len))
flat_stimuli s p (m ∷ marks) [] len fits = absurd (omega (arith, len))
flat_stimuli s p (m ∷ marks) (xs ∷ xss) len fits =
    let rest = flat_stimuli s (p + 1) marks xss (omega (arith, len)) fits.1 in
    let both = with_more (fails m) s p xs (flat xss) (failing_from (p + 1) marks) fits.0 rest.props rest.widths in
    record { props = both.0; widths = both.1 }

-- lists of stimuli for the properties from p on, which make one list
record Parts (s : Sizes) (p : ℕ) (marks : List Mark) (stimuli : List PropStim) : Type 0 where
  lists : List (List PropStim)
  as_many : length lists ≡ length marks
  each : FitFrom (due_form s) due_next (p, marks) lists
  all : flat lists ≡ stimuli

parts_more : (s : Sizes) (p : ℕ) (m : Mark) (marks : List Mark) (xs stimuli : List PropStim) → AreStimuliOf (fails m) s p xs
    → Parts s (p + 1) marks stimuli → Parts s p (m ∷ marks) (xs ++ stimuli)
parts_more s p m marks xs stimuli fits h =
    record {
      lists = xs ∷ h.lists;
      as_many = ap suc h.as_many;
      each = (fits, h.each);
      all = ap (λ (v : List PropStim). xs ++ v)
          h.all;
    }

-- the stimulus of a property that fails, in front of others
record Front (b : Bool) (s : Sizes) (p : ℕ) (ps : List ℕ) (stimuli : List PropStim) : Type 0 where
  first : List PropStim
  behind : List PropStim
  fits : AreStimuliOf b s p first
  whole : stimuli ≡ first ++ behind
  props : map (λ (x : PropStim). x.prop) behind ≡ ps
  widths : AllByRecursion (HasWidths s) behind

front_of : (b : Bool) (s : Sizes) (p : ℕ) (ps : List ℕ) (stimuli : List PropStim)
    → map (λ (x : PropStim). x.prop) stimuli ≡ failing_with b p ps
    → AllByRecursion (HasWidths s) stimuli → Front b s p ps stimuli
front_of false s p ps stimuli e widths = record {
  first = [];
  behind = stimuli;
  fits = refl;
  whole = refl;
  props = e;
  widths = widths;
}
front_of true s p ps [] e widths = absurd cc
front_of true s p ps (x ∷ stimuli) e widths =
    let named : x.prop ≡ p = cc in
    let others : map (λ (y : PropStim). y.prop) stimuli ≡ ps = cc in
    record {
      first = x ∷ [];
      behind = stimuli;
      fits = record { property = named; widths = widths.0 };
      whole = refl;
      props = others;
      widths = widths.1;
    }

parts_of : (s : Sizes) (p : ℕ) (marks : List Mark) (stimuli : List PropStim) → AreStimuli s p marks stimuli
    → Parts s p marks stimuli
parts_of s p [] [] are = record { lists = []; as_many = refl; each = tt; all = refl }
parts_of s p [] (x ∷ stimuli) are = (let wrong = are.props in absurd cc)
parts_of s p (m ∷ marks) stimuli are =
    let f = front_of (fails m) s p (failing_from (p + 1) marks) stimuli are.props are.widths in
    let rest = parts_of s (p + 1) marks f.behind (record { props = f.props; widths = f.widths }) in
    subst (Parts s p (m ∷ marks)) (sym f.whole) (parts_more s p m marks f.first f.behind f.fits rest)

abbrev all_form : Sizes → List Mark → Form (List (List PropStim))
all_form s marks = times (due_form s) due_next (length marks) (0, marks)

all_there : (s : Sizes) (marks : List Mark) → IsPart (all_form s marks) (stimuli_form s 0 marks)
all_there s marks xss fits = (flat xss, flat_stimuli s 0 marks xss fits.as_many fits.each, text_flat s (0, marks) xss)

all_back : (s : Sizes) (marks : List Mark) → IsPart (stimuli_form s 0 marks) (all_form s marks)
all_back s marks stimuli are =
    let parts = parts_of s 0 marks stimuli are in (
      parts.lists,
      record { as_many = parts.as_many; each = parts.each },
      sym (text_flat s (0, marks) parts.lists)
          ∙ ap (flat_map stimulus_lines) parts.all,
    )

pub stimuli_sound : (s : Sizes) (marks : List Mark) → length marks < 2 ^ 32 → IsSound (stimuli_form s 0 marks)
unfolding all_back
stimuli_sound s marks small =
    same_sound (all_form s marks) (stimuli_form s 0 marks) flat (all_there s marks) (all_back s marks)
    (λ stimuli are. (parts_of s 0 marks stimuli are).all)
    (times_sound (due_form s) due_next Met (due_met s) (length marks) (0, marks) (omega (arith, small)))

pub stimuli_end : (s : Sizes) (lines : List PropLine) (bytes : List ℕ) (i : ℕ) (l : PropLine) (stimuli : List PropStim)
    (rest : List ℕ) (left : ℕ) → length lines < 2 ^ 32
    → slice_get lines i ≡ Some l → HasStimuli s (marks_of lines) bytes i stimuli rest
    → Stops (where_form (fails l.mark) s i) rest left
    → Stops (stimuli_form s 0 (marks_of lines)) bytes left
stimuli_end s lines bytes i l stimuli rest left small at h stop =
    let marks = marks_of lines in
    let form = due_is s lines i l h.parts at h.taken.fits.as_many in
    let len : length marks ≡ length lines = length-map lines (λ (x : PropLine). x.mark) in
    let less : i < length lines = slice_get_within lines i l at in
    same_stops (all_form s marks) (stimuli_form s 0 marks) (all_there s marks) (all_back s marks) bytes left
    (times_ends (due_form s) due_next Met (due_met s) (length marks) (0, marks) bytes i h.parts rest left
    (omega (arith, small, len)) (omega (arith, less, len)) h.taken
    (subst (λ (F : Form (List PropStim)). Stops F rest left) (sym form) stop))

pub stimuli_done : (s : Sizes) (lines : List PropLine) (bytes : List ℕ) (i : ℕ) (stimuli : List PropStim) (rest : List ℕ)
    → i ≡ length lines
    → HasStimuli s (marks_of lines) bytes i stimuli rest → Takes (stimuli_form s 0 (marks_of lines)) bytes stimuli rest
stimuli_done s lines bytes i stimuli rest is h =
    let marks = marks_of lines in
    let len : length h.parts ≡ length marks = h.taken.fits.as_many ∙ is ∙ sym (length-map lines (λ (x : PropLine). x.mark)) in
    subst (λ (xs : List PropStim). Takes (stimuli_form s 0 marks) bytes xs rest) (sym h.all)
    (record {
      fits = flat_stimuli s 0 marks h.parts len h.taken.fits.each;
      parts = h.taken.parts ∙ ap (λ (v : List ℕ). v ++ rest) (sym (text_flat s (0, marks) h.parts));
    })
