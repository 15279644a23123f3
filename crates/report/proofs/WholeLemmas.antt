-- A report as one form behind another, and as its record.
use Rattle.std.proofs.Common.{◌≡◌, ℕ, ◌+◌, ◌<◌, ◌^◌, Bool, true, false, List, [], ◌∷◌, ◌++◌, length, refl, sym, ap, ◌∙◌, append_assoc, arith}
use Rattle.std.specs.Prelude.{⊤, codes, decimal}
use Rattle.std.specs.List.{AllByRecursion, flat_map}
use Rattle.std.proofs.lemmas.List.{length-map}
use Rattle.std.proofs.lemmas.List.Concat.{flat_map-cons}
use Rattle.ja_text.specs.Lines.{IsOneLine}
use Rattle.store_core.specs.declared.journal.Entry.{Entry}
use Rattle.store_core.specs.declared.mark.Mark.{Mark}
use Rattle.report.specs.declared.parts.PropLine.{PropLine}
use Rattle.report.specs.declared.parts.PropStim.{PropStim}
use Rattle.report.specs.declared.parts.Sizes.{Sizes}
use Rattle.report.specs.Entries.{IsSmallMark, IsSmallEntry}
use Rattle.report.specs.Findings.{Findings, marks_of}
use Rattle.report.specs.Reports.{IfShown, IsShownJournal, IsReportClause, AreSmallSizes, sizes_words, prop_words, prop_lines, clause_words, line_of, stimulus_lines, joined_words, set_words, journal_text, report_text}
use Rattle.report.specs.Forms.{Form, Takes, Stops, then, texts_from, FitFrom}
use Rattle.report.specs.Sections.{words_form, sizes_form, prop_form, props_form, clause_form, clause_lines_form, clauses_form, count_form, stimuli_form}
use Rattle.report.specs.Whole.{IsEnding, head_form, found_form, end_form, IsRead, report_form}
use Rattle.report.proofs.FormLemmas.{IsSound, IsPart, same_stops, same_sound, stops_first, stops_behind, then_sound, then_takes, line_sound, read_words}
use Rattle.report.proofs.DecodeLemmas.{IsOneLine-tested, words_words, sizes_read}
use Rattle.report.proofs.SectionLemmas.{some_words, some_sizes, props_sound, clauses_sound, clause_count_sound}
use Rattle.report.proofs.StimulusLemmas.{stimuli_sound}
use Rattle.report.proofs.EndLemmas.{end_sound}
use Rattle.report.proofs.ShownLemmas.{entries_tell, entries_are, entries_some}

-- ---- the head

pub first_word : IsOneLine (codes "jasign 1")
first_word = IsOneLine-tested (codes "jasign 1") refl

pub first_sound : IsSound (words_form (codes "jasign 1"))
first_sound = line_sound {X = ⊤} (λ _. ⊤) (λ _. codes "jasign 1") (words_words (codes "jasign 1") first_word)
    (some_words (codes "jasign 1"))

pub sizes_sound : IsSound sizes_form
sizes_sound = line_sound AreSmallSizes (λ s. codes "design" ++ sizes_words s) (read_words sizes_read) some_sizes

abbrev pub props_of : Sizes → Form (List PropLine)
props_of s = props_form s.props 0

pub sizes_props_sound : IsSound (then sizes_form props_of)
sizes_props_sound = then_sound sizes_form props_of sizes_sound (λ s fits. props_sound s.props fits.props)

pub head_sound : IsSound head_form
head_sound = then_sound (words_form (codes "jasign 1")) (λ _. then sizes_form props_of) first_sound (λ _ _. sizes_props_sound)

-- ---- what was found

pub clauses_form_sound : (vars : ℕ) → IsSound (clauses_form vars)
clauses_form_sound vars = then_sound (count_form (codes "clauses ")) (clause_lines_form vars) clause_count_sound
    (λ n fits. clauses_sound vars n)

pub found_sound : (s : Sizes) (marks : List Mark) → length marks < 2 ^ 32 → IsSound (found_form s marks)
found_sound s marks small = then_sound (clauses_form s.vars) (λ _. stimuli_form s 0 marks) (clauses_form_sound s.vars)
    (λ _ _. stimuli_sound s marks small)

-- ---- lines and clauses as the text of a report has them

props_text : (q : ℕ) (ls : List PropLine) → texts_from prop_form (λ k _. k + 1) q ls ≡ prop_lines q ls
props_text q [] = refl
props_text q (l ∷ ls) = ap (λ (t : List ℕ). line_of (prop_words q l) ++ t) (props_text (q + 1) ls)

props_small : (q : ℕ) (ls : List PropLine) → FitFrom prop_form (λ k _. k + 1) q ls
    → AllByRecursion (λ (l : PropLine). IsSmallMark l.mark) ls
props_small q [] fits = tt
props_small q (l ∷ ls) fits = (fits.0, props_small (q + 1) ls fits.1)

props_fit : (q : ℕ) (ls : List PropLine) → AllByRecursion (λ (l : PropLine). IsSmallMark l.mark) ls
    → FitFrom prop_form (λ k _. k + 1) q ls
props_fit q [] small = tt
props_fit q (l ∷ ls) small = (small.0, props_fit (q + 1) ls small.1)

abbrev clause_text : List ℕ → List ℕ
clause_text c = line_of (clause_words c)

clauses_text : (vars : ℕ) (cs : List (List ℕ)) → texts_from {S = ⊤} (λ _. clause_form vars) (λ s _. s) tt cs ≡ flat_map
    clause_text cs
clauses_text vars [] = refl
clauses_text vars (c ∷ cs) = ap (λ (t : List ℕ). clause_text c ++ t) (clauses_text vars cs) ∙ sym (flat_map-cons clause_text c cs)

clauses_are : (vars : ℕ) (cs : List (List ℕ)) → FitFrom {S = ⊤} (λ _. clause_form vars) (λ s _. s) tt cs
    → AllByRecursion (IsReportClause vars) cs × AllByRecursion (AllByRecursion (λ l. l < 2 ^ 32)) cs
clauses_are vars [] fits = (tt, tt)
clauses_are vars (c ∷ cs) fits = let rest = clauses_are vars cs fits.1 in ((fits.0.form, rest.0), (fits.0.small, rest.1))

clauses_fit : (vars : ℕ) (cs : List (List ℕ)) → AllByRecursion (IsReportClause vars) cs
    → AllByRecursion (AllByRecursion (λ l. l < 2 ^ 32)) cs
    → FitFrom {S = ⊤} (λ _. clause_form vars) (λ s _. s) tt cs
clauses_fit vars [] form small = tt
clauses_fit vars (c ∷ cs) form small = (record { form = form.0; small = small.0 }, clauses_fit vars cs form.1 small.1)

-- ---- the journal, where it is shown

if_shown : (b : Bool) (props : ℕ) (clauses : List (List ℕ)) (es : List Entry) (P : Type 0) → IsEnding props clauses b es
    → (IsEnding props clauses true es → P) → IfShown b P
if_shown true props clauses es P e f = f e
if_shown false props clauses es P e f = tt

hidden_of : (b : Bool) (props : ℕ) (clauses : List (List ℕ)) (es : List Entry) → IsEnding props clauses b es → b ≡ false → es ≡ []
hidden_of true props clauses es e f = absurd cc
hidden_of false props clauses es e f = e

ending_of : (b : Bool) (r : Findings) → r.sizes.props < 2 ^ 32 → length r.clauses < 2 ^ 32 → IfShown b (IsShownJournal r)
    → IfShown b ((length r.journal < 2 ^ 32) × AllByRecursion IsSmallEntry r.journal) → (b ≡ false → r.journal ≡ [])
    → IsEnding r.sizes.props r.clauses b r.journal
ending_of true r sp sc shown small hidden = (
  record { small = small.0; some = entries_some r.clauses r.journal shown.appended },
  entries_are r.sizes.props r.clauses r.journal sp sc shown.answered small.1 shown.appended,
)
ending_of false r sp sc shown small hidden = hidden refl

-- ---- the whole

abbrev pub Parts : Type 0
Parts = (⊤ × (Sizes × List PropLine)) × (((ℕ × List (List ℕ)) × List PropStim) × (Bool × (List ℕ × (Bool × List Entry))))

abbrev pub behind_found : ⊤ × (Sizes × List PropLine) → (ℕ × List (List ℕ)) × List PropStim
    → Form (Bool × (List ℕ × (Bool × List Entry)))
behind_found h f = end_form h.1.0.props f.0.1

abbrev pub behind_head : ⊤ × (Sizes × List PropLine)
    → Form (((ℕ × List (List ℕ)) × List PropStim) × (Bool × (List ℕ × (Bool × List Entry))))
behind_head h = then (found_form h.1.0 (marks_of h.1.1)) (behind_found h)

abbrev pub parts_form : Form Parts
parts_form = then head_form behind_head

abbrev pub report_of : Parts → Findings
report_of x = record {
  sizes = x.0.1.0;
  lines = x.0.1.1;
  clauses = x.1.0.0.1;
  stimuli = x.1.0.1;
  joined = x.1.1.0;
  set = x.1.1.1.0;
  journal = x.1.1.1.1.1;
  shown = x.1.1.1.1.0;
}

abbrev pub parts_of : Findings → Parts
parts_of r = ((tt, (r.sizes, r.lines)), (((length r.clauses, r.clauses), r.stimuli), (r.joined, (r.set, (r.shown, r.journal)))))

ten : (a b c d e f g h i j : List ℕ)
    → (a ++ (b ++ c)) ++ (((d ++ e) ++ f) ++ (g ++ (h ++ (i ++ j)))) ≡ a ++ b ++ c ++ d ++ e ++ f ++ g ++ h ++ i ++ j
ten a b c d e f g h i j = simp append_assoc

pub parts_text : (r : Findings) → parts_form.text (parts_of r) ≡ report_text r
parts_text r =
    ap (λ (t : List ℕ). (line_of (codes "jasign 1") ++ (line_of (codes "design" ++ sizes_words r.sizes) ++ t))
    ++ (((line_of (codes "clauses " ++ decimal (length r.clauses)) ++ texts_from {S = ⊤} (λ _. clause_form r.sizes.vars)
    (λ s _. s) tt r.clauses) ++ flat_map stimulus_lines r.stimuli)
    ++ (line_of (joined_words r.joined)
    ++ (line_of (set_words r.set) ++ (journal_text r.shown r.journal ++ line_of (codes "end")))))) (props_text 0 r.lines)
    ∙ ap (λ (t : List ℕ). (line_of (codes "jasign 1") ++ (line_of (codes "design" ++ sizes_words r.sizes) ++ prop_lines 0
    r.lines)) ++ (((line_of (codes "clauses " ++ decimal (length r.clauses)) ++ t) ++ flat_map stimulus_lines r.stimuli)
    ++ (line_of (joined_words r.joined)
    ++ (line_of (set_words r.set) ++ (journal_text r.shown r.journal ++ line_of (codes "end"))))))
    (clauses_text r.sizes.vars r.clauses)
    ∙ ten (line_of (codes "jasign 1")) (line_of (codes "design" ++ sizes_words r.sizes)) (prop_lines 0 r.lines)
    (line_of (codes "clauses " ++ decimal (length r.clauses)))
    (flat_map clause_text r.clauses) (flat_map stimulus_lines r.stimuli) (line_of (joined_words r.joined))
    (line_of (set_words r.set)) (journal_text r.shown r.journal) (line_of (codes "end"))

-- the parts are those of their report
parts_same : (x : Parts) → parts_form.Fits x → parts_of (report_of x) ≡ x
parts_same x fits = ap (λ (n : ℕ). ((tt, (x.0.1.0, x.0.1.1)), (((n, x.1.0.0.1), x.1.0.1), x.1.1))) fits.1.0.0.1.as_many

pub parts_read : (x : Parts) → parts_form.Fits x → IsRead (report_of x)
parts_read x fits =
    let s = x.0.1.0 in
    let clauses = x.1.0.0.1 in
    let es = x.1.1.1.1.1 in
    let shown = x.1.1.1.1.0 in
    let ending : IsEnding s.props clauses shown es = fits.1.1.1.1 in
    let are = clauses_are s.vars clauses fits.1.0.0.1.each in
    let count : length clauses < 2 ^ 32 = omega (arith, fits.1.0.0.0, fits.1.0.0.1.as_many) in
    record {
      form = record {
        lines = fits.0.1.1.as_many;
        clauses = are.0;
        stimuli = fits.1.0.1.props;
        widths = fits.1.0.1.widths;
        set_ascends = fits.1.1.1.0.ascends;
        set_within = fits.1.1.1.0.within;
        journal = if_shown shown s.props clauses es (IsShownJournal (report_of x)) ending
            (λ e. let t = entries_tell s.props clauses es e.0 e.1 in record { answered = t.0; appended = t.2 });
      };
      small = record {
        sizes = fits.0.1.0;
        marks = props_small 0 x.0.1.1 fits.0.1.1.each;
        count = count;
        literals = are.1;
        journal = if_shown shown s.props clauses es ((length es < 2 ^ 32) × AllByRecursion IsSmallEntry es) ending
            (λ e. let t = entries_tell s.props clauses es e.0 e.1 in (e.0.small, t.1));
      };
      hidden = hidden_of shown s.props clauses es ending;
    }

parts_fit : (r : Findings) → IsRead r → parts_form.Fits (parts_of r)
parts_fit r h =
    let f = h.form in
    let m = h.small in (
      (tt, (m.sizes, record { as_many = f.lines; each = props_fit 0 r.lines m.marks })),
      (
        (
          (m.count, record { as_many = refl; each = clauses_fit r.sizes.vars r.clauses f.clauses m.literals }),
          record { props = f.stimuli; widths = f.widths },
        ),
        (
          tt,
          (
            record { ascends = f.set_ascends; within = f.set_within },
            ending_of r.shown r m.sizes.props m.count f.journal
                m.journal h.hidden,
          ),
        ),
      ),
    )

report_there : IsPart parts_form report_form
report_there x fits = (report_of x, parts_read x fits, sym (parts_text (report_of x)) ∙ ap parts_form.text (parts_same x fits))

report_back : IsPart report_form parts_form
report_back r h = (parts_of r, parts_fit r h, parts_text r)

pub head_small : (h : ⊤ × (Sizes × List PropLine)) → head_form.Fits h
    → (h.1.0.props < 2 ^ 32) × (length (marks_of h.1.1) < 2 ^ 32)
head_small h fits =
    (fits.1.0.props, omega (arith, fits.1.0.props, fits.1.1.as_many, length-map h.1.1 (λ (l : PropLine). l.mark)))

behind_found_sound : (h : ⊤ × (Sizes × List PropLine)) → head_form.Fits h → (f : (ℕ × List (List ℕ)) × List PropStim)
    → (found_form h.1.0 (marks_of h.1.1)).Fits f
    → IsSound (behind_found h f)
behind_found_sound h fits f found = end_sound h.1.0.props f.0.1 (head_small h fits).0
    (omega (arith, found.0.0, found.0.1.as_many))

behind_head_sound : (h : ⊤ × (Sizes × List PropLine)) → head_form.Fits h → IsSound (behind_head h)
behind_head_sound h fits = then_sound (found_form h.1.0 (marks_of h.1.1)) (behind_found h)
    (found_sound h.1.0 (marks_of h.1.1) (head_small h fits).1) (behind_found_sound h fits)

parts_sound : IsSound parts_form
parts_sound = then_sound head_form behind_head head_sound behind_head_sound

pub report_sound : IsSound report_form
unfolding report_back
report_sound = same_sound parts_form report_form report_of report_there report_back (λ r h. refl) parts_sound

-- ---- as the reader ends

pub report_stops_head : (bytes : List ℕ) (left : ℕ) → Stops head_form bytes left → Stops report_form bytes left
report_stops_head bytes left stop =
    same_stops parts_form report_form report_there report_back bytes left
    (stops_first head_form behind_head (λ h fits. (behind_head_sound h fits).some) bytes left stop)

pub report_stops_found : (bytes : List ℕ) (h : ⊤ × (Sizes × List PropLine)) (mid : List ℕ) (left : ℕ)
    → Takes head_form bytes h mid
    → Stops (found_form h.1.0 (marks_of h.1.1)) mid left → Stops report_form bytes left
report_stops_found bytes h mid left t stop =
    same_stops parts_form report_form report_there report_back bytes left
    (stops_behind head_form behind_head head_sound bytes h mid left t
    (stops_first (found_form h.1.0 (marks_of h.1.1)) (behind_found h) (λ f found. (behind_found_sound h t.fits f found).some) mid
    left stop))

pub report_stops_end : (bytes : List ℕ) (h : ⊤ × (Sizes × List PropLine)) (mid : List ℕ) (f : (ℕ × List (List ℕ)) × List PropStim)
    (rest : List ℕ) (left : ℕ) → Takes head_form bytes h mid
    → Takes (found_form h.1.0 (marks_of h.1.1)) mid f rest → Stops (behind_found h f) rest left → Stops report_form bytes left
report_stops_end bytes h mid f rest left t u stop =
    same_stops parts_form report_form report_there report_back bytes left
    (stops_behind head_form behind_head head_sound bytes h mid left t
    (stops_behind (found_form h.1.0 (marks_of h.1.1)) (behind_found h)
    (found_sound h.1.0 (marks_of h.1.1) (head_small h t.fits).1) mid f rest left u stop))

pub report_taken : (bytes : List ℕ) (h : ⊤ × (Sizes × List PropLine)) (mid : List ℕ) (f : (ℕ × List (List ℕ)) × List PropStim)
    (rest : List ℕ)
    (e : Bool × (List ℕ × (Bool × List Entry))) (after : List ℕ) → Takes head_form bytes h mid
    → Takes (found_form h.1.0 (marks_of h.1.1)) mid f rest
    → Takes (behind_found h f) rest e after → Takes report_form bytes (report_of (h, (f, e))) after
unfolding report_there
report_taken bytes h mid f rest e after t u v =
    let inner = then_takes (found_form h.1.0 (marks_of h.1.1)) (behind_found h) mid f rest e after u v in
    let whole = then_takes head_form behind_head bytes h mid (f, e) after t inner in
    let y = report_there (h, (f, e)) whole.fits in
    record { fits = y.1; parts = whole.parts ∙ ap (λ (w : List ℕ). w ++ after) (sym y.2) }
