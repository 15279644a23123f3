-- Lines of rows up to the dot: what is read is spelled so, and what is spelled so is read so.
use Rattle.std.proofs.Common.{◌≡◌, ◌≢◌, ℕ, zero, suc, ◌+◌, ◌≤◌, inl, inr, Bool, true, false, cond, List, [], ◌∷◌, ◌++◌, length, Option, Some, None, Result, Ok, Err, refl, sym, ap, subst, ◌∙◌, arith, append_assoc}
use Rattle.std.specs.Prelude.{All}
use Rattle.std.proofs.lemmas.List.Elements.{All-nil, All-cons, All-head, All-tail}
use Rattle.std.proofs.lemmas.Slice.Eq.{bytes_eq-Decides}
use Rattle.ja_text.specs.Reading.{◌>>=◌}
use Rattle.ja_text.proofs.ReadingLemmas.{bind_ok, guard_held, ok_is}
use Rattle.local_stim.specs.declared.refusal.StimRefusal.{StimRefusal}
use Rattle.local_stim.specs.declared.refusal.StimRefusal.TheVariants.{TooLarge}
use Rattle.local_stim.specs.StimulusText.{IsRowText, AreRowLines, IsLineEnd}
use Rattle.local_stim.specs.StimulusReading.{is_dot, due_line, bits_of, next_row_at, dot_at, rows_behind, rows_at}
use Rattle.local_stim.proofs.DueLemmas.{IsDue, due_takes, due_ends, due_again, due_dot, bits_take, bits_again, IsOneLine-row, row_is_no_dot}

-- ---- the rows behind the first one

dot_is : (line : List ℕ) → is_dot line ≡ true → line ≡ 46 ∷ []
dot_is line h = (bytes_eq-Decides line (46 ∷ [])).0 h

is_no_dot : (line : List ℕ) → line ≢ 46 ∷ [] → is_dot line ≡ false
is_no_dot line ne = not_held (is_dot line) (λ h. ne (dot_is line h))
  where
    not_held : (t : Bool) → t ≢ true → t ≡ false
    not_held true never = absurd (never refl)
    not_held false never = refl

-- the text ends with a dot and what follows that line
EndsAtDot : List ℕ → Type 0
EndsAtDot rest = (after : List ℕ) × (rest ≡ 46 ∷ after) × IsLineEnd after

dot_due : (rest line after : List ℕ) → IsDue rest line after → line ≡ 46 ∷ [] → EndsAtDot rest
unfolding EndsAtDot
dot_due rest line after (inl t) dot = (10 ∷ after, t.parts ∙ ap (λ (text : List ℕ). text ++ 10 ∷ after) dot, refl)
dot_due rest line after (inr d) dot = ([], d.0, tt)

-- a row's line stands in front
abbrev pub IsRowLine : ℕ → List ℕ → List Bool → List ℕ → Type 0
IsRowLine width rest bits after = (line : List ℕ) × (rest ≡ line ++ 10 ∷ after) × IsRowText line bits × (length bits ≡ width)

pub row_due : (width number : ℕ) (rest line after : List ℕ) (bits : List Bool) → IsDue rest line after
    → bits_of width number line ≡ Ok bits → IsRowLine width rest bits after
row_due width number rest line after bits due h =
    let row = bits_take width number line bits h in
    let t = due_ends rest line after due (row_is_no_dot line bits row.0) in
    (line, t.parts, row.0, row.1)

-- what is read of a row, or at the dot
Next : ℕ → List ℕ → Option (List Bool × List ℕ) → Type 0
Next width rest None = EndsAtDot rest
Next width rest (Some x) = IsRowLine width rest x.0 x.1

next_step : (t : Bool) (width number : ℕ) (rest : List ℕ) (line : List ℕ × List ℕ) (found : Option (List Bool × List ℕ))
    → IsDue rest line.0 line.1 → is_dot line.0 ≡ t
    → cond t (Ok None) (bits_of width number line.0 >>= λ bits. Ok (Some (bits, line.1))) ≡ Ok found → Next width rest found
unfolding Next
next_step true width number rest line found due e h =
    subst (λ (x : Option (List Bool × List ℕ)). Next width rest x) (ok_is {F = StimRefusal} None found h)
    (dot_due rest line.0 line.1 due (dot_is line.0 e))
next_step false width number rest line found due e h =
    let row = bind_ok (bits_of width number line.0) (λ bits. Ok (Some (bits, line.1))) found h in
    subst (λ (x : Option (List Bool × List ℕ)). Next width rest x) (ok_is {F = StimRefusal} (Some (row.0, line.1)) found row.2)
    (row_due width number rest line.0 line.1 row.0 due row.1)

next_takes : (width number : ℕ) (rest : List ℕ) (found : Option (List Bool × List ℕ)) → next_row_at width number rest ≡ Ok found
    → Next width rest found
unfolding next_row_at
next_takes width number rest found h =
    let due = bind_ok (due_line number rest)
    (λ line. cond (is_dot line.0) (Ok None) (bits_of width number line.0 >>= λ bits. Ok (Some (bits, line.1)))) found h in
    next_step (is_dot due.0.0) width number rest due.0 found (due_takes number rest due.0 due.1) refl due.2

dot_takes : (number : ℕ) (rest : List ℕ) (rows : List (List Bool)) → dot_at number rest ≡ Ok rows → EndsAtDot rest × ([] ≡ rows)
unfolding dot_at
dot_takes number rest rows h =
    let due = bind_ok (due_line number rest) (λ line. cond (is_dot line.0) (Ok []) (Err TooLarge)) rows h in
    let dot = guard_held (is_dot due.0.0) TooLarge [] rows due.2 in
    (dot_due rest due.0.0 due.0.1 (due_takes number rest due.0 due.1) (dot_is due.0.0 dot.0), dot.1)

-- lines of rows, a dot, and what follows its line
pub record AreRows (width : ℕ) (rest : List ℕ) (rows : List (List Bool)) (most : ℕ) : Type 0 where
  pub text : List ℕ
  pub after : List ℕ
  pub parts : rest ≡ text ++ 46 ∷ after
  pub ends : IsLineEnd after
  pub lines : AreRowLines text rows
  pub widths : All (λ row. length row ≡ width) rows
  pub few : length rows ≤ most

no_rows : (width most : ℕ) (rest : List ℕ) → EndsAtDot rest → AreRows width rest [] most
unfolding EndsAtDot
no_rows width most rest dot =
    record {
      text = [];
      after = dot.0;
      parts = dot.1;
      ends = dot.2;
      lines = refl;
      widths = All-nil
          (λ row. length row ≡ width);
      few = omega arith;
    }

more_rows : (width most : ℕ) (rest : List ℕ) (bits : List Bool) (after : List ℕ) (rows : List (List Bool))
    → IsRowLine width rest bits after → AreRows width after rows most → AreRows width rest (bits ∷ rows) (suc most)
more_rows width most rest bits after rows row others =
    record {
      text = row.0 ++ 10 ∷ others.text;
      after = others.after;
      parts = row.1 ∙ ap (λ (text : List ℕ). row.0 ++ 10 ∷ text) others.parts
          ∙ sym (append_assoc row.0 (10 ∷ others.text) (46 ∷ others.after));
      ends = others.ends;
      lines = (row.0, others.text, row.2, refl, others.lines);
      widths = All-cons (λ b. length b ≡ width) bits rows row.3 others.widths;
      few = omega (arith, others.few);
    }

rows_step : (width left : ℕ) (rest : List ℕ) (others : List ℕ → Result (List (List Bool)) StimRefusal)
    (found : Option (List Bool × List ℕ)) (rows : List (List Bool))
    → Next width rest found
    → ((after : List ℕ) (more : List (List Bool)) → others after ≡ Ok more → AreRows width after more left)
    → rows_behind others found ≡ Ok rows → AreRows width rest rows (suc left)
unfolding Next
rows_step width left rest others None rows next ih h =
    subst (λ (x : List (List Bool)). AreRows width rest x (suc left)) (ok_is {F = StimRefusal} [] rows h)
    (no_rows width (suc left) rest next)
rows_step width left rest others (Some x) rows next ih h =
    let more = bind_ok (others x.1) (λ r. Ok (x.0 ∷ r)) rows h in
    subst (λ (y : List (List Bool)). AreRows width rest y (suc left)) (ok_is {F = StimRefusal} (x.0 ∷ more.0) rows more.2)
    (more_rows width left rest x.0 x.1 more.0 next (ih x.1 more.0 more.1))

pub rows_take : (width left number : ℕ) (rest : List ℕ) (rows : List (List Bool)) → rows_at width left number rest ≡ Ok rows
    → AreRows width rest rows left
unfolding rows_at
rows_take width zero number rest rows h =
    let dot = dot_takes number rest rows h in
    subst (λ (x : List (List Bool)). AreRows width rest x 0) dot.1 (no_rows width 0 rest dot.0)
rows_take width (suc left) number rest rows h =
    let found = bind_ok (next_row_at width number rest) (λ x. rows_behind (rows_at width left (number + 1)) x) rows h in
    rows_step width left rest (rows_at width left (number + 1)) found.0 rows (next_takes width number rest found.0 found.1)
    (λ after more e. rows_take width left (number + 1) after more e) found.2

-- ---- the same rows are read again

next_again : (width number : ℕ) (line after : List ℕ) (bits : List Bool) → IsRowText line bits → length bits ≡ width
    → next_row_at width number (line ++ 10 ∷ after) ≡ Ok (Some (bits, after))
unfolding next_row_at
next_again width number line after bits row e =
    rw (
      due_again number line after (IsOneLine-row line bits row),
      is_no_dot line (row_is_no_dot line bits row),
      bits_again width number line bits row e,
    ) refl

next_dot : (width number : ℕ) (after : List ℕ) → IsLineEnd after → next_row_at width number (46 ∷ after) ≡ Ok None
unfolding next_row_at
next_dot width number after ends = let dot = due_dot number after ends in rw (dot.1) refl

dot_again : (number : ℕ) (after : List ℕ) → IsLineEnd after → dot_at number (46 ∷ after) ≡ Ok []
unfolding dot_at
dot_again number after ends = let dot = due_dot number after ends in rw (dot.1) refl

pub rows_again : (width left number : ℕ) (text after : List ℕ) (rows : List (List Bool)) → AreRowLines text rows
    → All (λ row. length row ≡ width) rows → IsLineEnd after → length rows ≤ left
    → rows_at width left number (text ++ 46 ∷ after) ≡ Ok rows
unfolding rows_at
rows_again width zero number text after [] lines widths ends few = ap (λ (t : List ℕ). dot_at number (t ++ 46 ∷ after)) lines
    ∙ dot_again number after ends
rows_again width zero number text after (row ∷ rows) lines widths ends few = absurd (omega arith)
rows_again width (suc left) number text after [] lines widths ends few =
    ap (λ (t : List ℕ). rows_at width (suc left) number (t ++ 46 ∷ after)) lines ∙ rw (next_dot width number after ends) refl
rows_again width (suc left) number text after (row ∷ rows) lines widths ends few =
    let behind = lines.1 ++ 46 ∷ after in
    let regrouped : text ++ 46 ∷ after ≡ lines.0 ++ 10 ∷ behind = ap (λ (t : List ℕ). t ++ 46 ∷ after) lines.3
    ∙ append_assoc lines.0 (10 ∷ lines.1) (46 ∷ after) in
    ap (λ (t : List ℕ). rows_at width (suc left) number t) regrouped
    ∙ rw (
      next_again width number lines.0 behind row lines.2 (All-head (λ b. length b ≡ width) row rows widths),
      rows_again width left (number + 1) lines.1 after rows lines.4 (All-tail (λ b. length b ≡ width) row rows widths) ends
          (omega arith),
    ) refl
