-- The end of a report: what is taken, and where reading stops.
use Rattle.std.proofs.Common.{◌≡◌, ℕ, suc, ◌<◌, ◌^◌, Bool, true, false, List, [], ◌∷◌, ◌++◌, length, Option, Some, None, refl, sym, ap, subst, ◌∙◌, append_assoc, inl}
use Rattle.std.specs.Prelude.{⊤, codes, decimal, IfSome}
use Rattle.ja_text.specs.Lines.{IsOneLine}
use Rattle.store_core.specs.declared.journal.Entry.{Entry}
use Rattle.report.specs.declared.what.Said.{Said}
use Rattle.report.specs.Reports.{line_of, entry_lines, joined_words, set_words}
use Rattle.report.specs.Forms.{Form, Takes, Stops, then}
use Rattle.report.specs.Sections.{words_form, IsSet, joined_form, set_form, journal_words, IsEntryCount, journal_form}
use Rattle.report.specs.JournalLines.{entries_of, AreEntries, entries_form}
use Rattle.report.specs.Whole.{tail_form, end_form}
use Rattle.report.proofs.FormLemmas.{IsSound, IsPart, same_stops, same_sound, stops_first, stops_behind, then_sound, then_takes, line_sound, read_words}
use Rattle.report.proofs.DecodeLemmas.{IsOneLine-tested, words_words, joined_read, journal_read}
use Rattle.report.proofs.NumbersLemmas.{set_are_words}
use Rattle.report.proofs.SectionLemmas.{some_words, some_joined, some_set, some_journal}
use Rattle.report.proofs.JournalLemmas.{entries_sound}

-- ---- the last line

pub end_word : IsOneLine (codes "end")
end_word = IsOneLine-tested (codes "end") refl

pub end_line_sound : IsSound (words_form (codes "end"))
end_line_sound = line_sound {X = ⊤} (λ _. ⊤) (λ _. codes "end") (words_words (codes "end") end_word) (some_words (codes "end"))

pub joined_sound : IsSound joined_form
joined_sound = line_sound {X = Bool} (λ _. ⊤) joined_words (read_words joined_read) some_joined

pub set_sound : (props : ℕ) → props < 2 ^ 32 → IsSound (set_form props)
set_sound props small = line_sound (IsSet props) set_words (set_are_words props small) (some_set props)

journal_sound : (clauses : ℕ) → IsSound (journal_form clauses)
journal_sound clauses = line_sound (λ next. IfSome next (IsEntryCount clauses)) journal_words (read_words (journal_read clauses))
    (some_journal clauses)

-- ---- the journal, where it is shown, and the end

-- what follows the line behind the set
abbrev pub rest_form : ℕ → List (List ℕ) → Option ℕ → Form (List Entry × ⊤)
rest_form props clauses None = record { Fits = λ p. p.0 ≡ []; text = λ p. [] }
rest_form props clauses (Some n) = then (entries_form props clauses n) (λ _. words_form (codes "end"))

abbrev pub next_form : ℕ → List (List ℕ) → Form (Option ℕ × (List Entry × ⊤))
next_form props clauses = then (journal_form (length clauses)) (rest_form props clauses)

entries_length : (clauses : List (List ℕ)) (from : ℕ) (ss : List Said) → length (entries_of clauses from ss) ≡ length ss
entries_length clauses from [] = refl
entries_length clauses from (s ∷ ss) = ap suc (entries_length clauses s.upto ss)

count_of_entries : (props : ℕ) (clauses : List (List ℕ)) (n : ℕ) (es : List Entry) → AreEntries props clauses n es → length es ≡ n
count_of_entries props clauses n es h = ap length h.are ∙ entries_length clauses 0 h.lines ∙ h.fit.as_many

journal_line : ℕ → List ℕ
journal_line n = line_of (codes "journal " ++ decimal n)

next_there : (props : ℕ) (clauses : List (List ℕ)) → IsPart (next_form props clauses) (tail_form props clauses)
next_there props clauses (None, p) fits = ((false, p.0), fits.1, refl)
next_there props clauses (Some n, p) fits =
    let len : length p.0 ≡ n = count_of_entries props clauses n p.0 fits.1.0 in
    let count : IsEntryCount (length clauses) (length p.0) = subst (IsEntryCount (length clauses)) (sym len) fits.0 in
    let entries : AreEntries props clauses (length p.0) p.0 = subst (λ (k : ℕ). AreEntries props clauses k p.0) (sym len) fits.1.0
    in (
      (true, p.0),
      (count, entries),
      append_assoc (line_of (codes "journal " ++ decimal (length p.0))) (entry_lines 0 p.0) (line_of (codes "end"))
          ∙ ap (λ (k : ℕ). line_of (codes "journal " ++ decimal k) ++ (entry_lines 0 p.0 ++ line_of (codes "end"))) len,
    )

next_back : (props : ℕ) (clauses : List (List ℕ)) → IsPart (tail_form props clauses) (next_form props clauses)
next_back props clauses (false, es) fits = ((None, (es, tt)), (tt, fits), refl)
next_back props clauses (true, es) fits = (
  (Some (length es), (es, tt)),
  (fits.0, (fits.1, tt)),
  sym (append_assoc (line_of (codes "journal " ++ decimal (length es))) (entry_lines 0 es) (line_of (codes "end"))),
)

rest_sound : (props : ℕ) (clauses : List (List ℕ)) (next : Option ℕ) → length clauses < 2 ^ 32
    → IfSome next (IsEntryCount (length clauses)) → IsSound (rest_form props clauses next)
rest_sound props clauses None small fits = record {
  one = λ p a q b fp fq e. (ap (λ (es : List Entry). (es, tt)) (fp ∙ sym fq), e);
  some = (([], tt), refl);
  lines = λ p f. inl refl;
}
rest_sound props clauses (Some n) small fits =
    then_sound (entries_form props clauses n) (λ _. words_form (codes "end")) (entries_sound props clauses n small fits.some)
    (λ _ _. end_line_sound)

next_sound : (props : ℕ) (clauses : List (List ℕ)) → length clauses < 2 ^ 32 → IsSound (next_form props clauses)
next_sound props clauses small =
    then_sound (journal_form (length clauses)) (rest_form props clauses) (journal_sound (length clauses))
    (λ next fits. rest_sound props clauses next small fits)

-- whether it is shown, and the entries
shown_of : Option ℕ × (List Entry × ⊤) → Bool × List Entry
shown_of (None, p) = (false, p.0)
shown_of (Some n, p) = (true, p.0)

shown_back : (props : ℕ) (clauses : List (List ℕ)) (p : Bool × List Entry) (fits : (tail_form props clauses).Fits p)
    → shown_of (next_back props clauses p fits).0 ≡ p
unfolding next_back shown_of
shown_back props clauses (false, es) fits = refl
shown_back props clauses (true, es) fits = refl

pub tail_sound : (props : ℕ) (clauses : List (List ℕ)) → length clauses < 2 ^ 32 → IsSound (tail_form props clauses)
tail_sound props clauses small =
    same_sound (next_form props clauses) (tail_form props clauses) shown_of (next_there props clauses) (next_back props clauses)
    (shown_back props clauses) (next_sound props clauses small)

tail_stops : (props : ℕ) (clauses : List (List ℕ)) (bytes : List ℕ) (left : ℕ) → Stops (next_form props clauses) bytes left
    → Stops (tail_form props clauses) bytes left
tail_stops props clauses bytes left stop =
    same_stops (next_form props clauses) (tail_form props clauses) (next_there props clauses) (next_back props clauses) bytes left
    stop

pub tail_stops_first : (props : ℕ) (clauses : List (List ℕ)) → length clauses < 2 ^ 32 → (bytes : List ℕ) (left : ℕ)
    → Stops (journal_form (length clauses)) bytes left
    → Stops (tail_form props clauses) bytes left
tail_stops_first props clauses small bytes left stop =
    tail_stops props clauses bytes left
    (stops_first (journal_form (length clauses)) (rest_form props clauses)
    (λ next fits. (rest_sound props clauses next small fits).some) bytes left stop)

pub tail_stops_entries : (props : ℕ) (clauses : List (List ℕ)) (n : ℕ) (bytes mid : List ℕ) (left : ℕ)
    → Takes (journal_form (length clauses)) bytes (Some n) mid
    → Stops (entries_form props clauses n) mid left → Stops (tail_form props clauses) bytes left
tail_stops_entries props clauses n bytes mid left t stop =
    tail_stops props clauses bytes left
    (stops_behind (journal_form (length clauses)) (rest_form props clauses) (journal_sound (length clauses)) bytes (Some n) mid
    left t
    (stops_first (entries_form props clauses n) (λ _. words_form (codes "end")) (λ _ _. some_words (codes "end")) mid left stop))

pub tail_stops_end : (props : ℕ) (clauses : List (List ℕ)) (n : ℕ) (es : List Entry) (bytes mid rest : List ℕ) (left : ℕ)
    → length clauses < 2 ^ 32
    → Takes (journal_form (length clauses)) bytes (Some n) mid → Takes (entries_form props clauses n) mid es rest
    → Stops (words_form (codes "end")) rest left
    → Stops (tail_form props clauses) bytes left
tail_stops_end props clauses n es bytes mid rest left small t u stop =
    tail_stops props clauses bytes left
    (stops_behind (journal_form (length clauses)) (rest_form props clauses) (journal_sound (length clauses)) bytes (Some n) mid
    left t
    (stops_behind (entries_form props clauses n) (λ _. words_form (codes "end")) (entries_sound props clauses n small t.fits.some)
    mid es rest left u stop))

pub tail_taken : (props : ℕ) (clauses : List (List ℕ)) (n : ℕ) (es : List Entry) (bytes mid rest after : List ℕ)
    → Takes (journal_form (length clauses)) bytes (Some n) mid
    → Takes (entries_form props clauses n) mid es rest → Takes (words_form (codes "end")) rest tt after
    → Takes (tail_form props clauses) bytes (true, es) after
unfolding next_there
tail_taken props clauses n es bytes mid rest after t u v =
    let inner = then_takes (entries_form props clauses n) (λ _. words_form (codes "end")) mid es rest tt after u v in
    let whole = then_takes (journal_form (length clauses)) (rest_form props clauses) bytes (Some n) mid (es, tt) after t inner in
    let y = next_there props clauses (Some n, (es, tt)) whole.fits in
    record { fits = y.1; parts = whole.parts ∙ ap (λ (w : List ℕ). w ++ after) (sym y.2) }

-- ---- all of the end

pub set_tail_sound : (props : ℕ) (clauses : List (List ℕ)) → props < 2 ^ 32 → length clauses < 2 ^ 32
    → IsSound (then (set_form props) (λ _. tail_form props clauses))
set_tail_sound props clauses p c = then_sound (set_form props) (λ _. tail_form props clauses) (set_sound props p)
    (λ _ _. tail_sound props clauses c)

pub end_sound : (props : ℕ) (clauses : List (List ℕ)) → props < 2 ^ 32 → length clauses < 2 ^ 32
    → IsSound (end_form props clauses)
end_sound props clauses p c = then_sound joined_form (λ _. then (set_form props) (λ _. tail_form props clauses)) joined_sound
    (λ _ _. set_tail_sound props clauses p c)
