-- A stimulus text: what is read is spelled so, and what is spelled so is read so.
use Rattle.std.proofs.Common.{◌≡◌, ◌≢◌, ◌⊎◌, inl, inr, ℕ, suc, ◌<◌, ◌≤◌, Bool, true, false, cond, ltb, List, [], ◌∷◌, ◌++◌, length, get_or, Result, Ok, Err, refl, sym, ap, subst, ◌∙◌, arith, append_assoc, ltb-false, le-ltb}
use Rattle.std.specs.Str.{bytes_eq}
use Rattle.std.proofs.lemmas.List.Elements.{All-cons, All-head, All-tail}
use Rattle.std.proofs.lemmas.Slice.Eq.{bytes_eq-Decides}
use Rattle.ja_base.specs.declared.memory.OrMemory.{OrMemory}
use Rattle.ja_base.specs.declared.memory.OrMemory.TheVariants as or_memory
use Rattle.ja_base.specs.Answers.{IfRefused}
use Rattle.ja_base.specs.Runs.{Trace}
use Rattle.ja_text.specs.Numbers.{IsNumber}
use Rattle.ja_text.specs.Reading.{Fails}
use Rattle.ja_text.proofs.ReadingLemmas.{bind_ok, guard_held, ok_is}
use Rattle.aig_model.specs.Netlist.{Netlist}
use Rattle.local_stim.specs.declared.refusal.StimRefusal.{StimRefusal}
use Rattle.local_stim.specs.declared.refusal.StimRefusal.TheVariants.{Line, TooLarge}
use Rattle.local_stim.specs.FirstRefusal.{IsFirstRefusal}
use Rattle.local_stim.specs.StimulusText.{IsRowText, IsStimulusText}
use Rattle.local_stim.specs.StimulusReading.{due_line, bits_of, known_property, rows_at, with_rows, after_one, property_at, row_at, stimulus_at, stimulus_of}
use Rattle.local_stim.proofs.DueLemmas.{due_takes, due_ends, due_again, bits_again, IsOneLine-row, known_takes, known_again, IsOneLine-property}
use Rattle.local_stim.proofs.RowLineLemmas.{IsRowLine, row_due, AreRows, rows_take, rows_again}

-- ---- the first lines

one_takes : (bytes named : List ℕ) → after_one bytes ≡ Ok named → bytes ≡ 49 ∷ 10 ∷ named
unfolding after_one
one_takes bytes named h =
    let due = bind_ok (due_line 1 bytes) (λ line. cond (bytes_eq line.0 (49 ∷ [])) (Ok line.1) (Err (Line 1))) named h in
    let one = guard_held (bytes_eq due.0.0 (49 ∷ [])) (Line 1) due.0.1 named due.2 in
    let is : due.0.0 ≡ 49 ∷ [] = (bytes_eq-Decides due.0.0 (49 ∷ [])).0 one.0 in
    let t = due_ends bytes due.0.0 due.0.1 (due_takes 1 bytes due.0 due.1) (λ e. absurd cc) in
    t.parts ∙ ap (λ (line : List ℕ). line ++ 10 ∷ due.0.1) is ∙ ap (λ (rest : List ℕ). 49 ∷ 10 ∷ rest) one.1

-- the line of the property stands in front
IsPropertyLine : ℕ → List ℕ → ℕ → List ℕ → Type 0
IsPropertyLine count rest p after = (number : List ℕ) × (rest ≡ (98 ∷ number) ++ 10 ∷ after) × IsNumber number p × (p < count)

b_is_no_dot : (line number : List ℕ) → line ≡ 98 ∷ number → line ≢ 46 ∷ []
b_is_no_dot line number is e = let other : ◌≡◌ {A = ℕ} 98 46 = ap (λ (l : List ℕ). get_or l 0 0) (sym is ∙ e) in absurd
    (omega arith)

property_line : (count : ℕ) (rest : List ℕ) (x : ℕ × List ℕ) → property_at count rest ≡ Ok x → IsPropertyLine count rest x.0 x.1
unfolding property_at IsPropertyLine
property_line count rest x h =
    let due = bind_ok (due_line 2 rest) _ x h in
    let known = bind_ok (known_property count due.0.0) _ x due.2 in
    let named = known_takes count due.0.0 known.0 known.1 in
    let t = due_ends rest due.0.0 due.0.1 (due_takes 2 rest due.0 due.1) (b_is_no_dot due.0.0 named.0.number named.0.is) in
    let is = ok_is {F = StimRefusal} (known.0, due.0.1) x known.2 in
    subst (λ (y : ℕ × List ℕ). IsPropertyLine count rest y.0 y.1) is
    (named.0.number, t.parts ∙ ap (λ (line : List ℕ). line ++ 10 ∷ due.0.1) named.0.is, named.0.form, named.1)

row_line : (width number : ℕ) (rest : List ℕ) (x : List Bool × List ℕ) → row_at width number rest ≡ Ok x
    → IsRowLine width rest x.0 x.1
unfolding row_at
row_line width number rest x h =
    let due = bind_ok (due_line number rest) _ x h in
    let row = bind_ok (bits_of width number due.0.0) _ x due.2 in
    let is = ok_is {F = StimRefusal} (row.0, due.0.1) x row.2 in
    subst (λ (y : List Bool × List ℕ). IsRowLine width rest y.0 y.1) is
    (row_due width number rest due.0.0 due.0.1 row.0 (due_takes number rest due.0 due.1) row.1)

-- ---- the whole text

regroup : (number first rows after : List ℕ)
    → 49 ∷ 10 ∷ 98 ∷ number ++ 10 ∷ first ++ 10 ∷ rows ++ 46 ∷ after ≡ 49 ∷ 10 ∷
    ((98 ∷ number) ++ 10 ∷ (first ++ 10 ∷ (rows ++ 46 ∷ after)))
regroup number first rows after =
    ap (λ (t : List ℕ). 49 ∷ 10 ∷ 98 ∷ t)
    (append_assoc (number ++ 10 ∷ first) (10 ∷ rows) (46 ∷ after)
    ∙ append_assoc number (10 ∷ first) (10 ∷ (rows ++ 46 ∷ after)))

-- each part behind the one before it
put_together : (d : Netlist) (bytes named after_number after_first after_input : List ℕ) (p most : ℕ) (first input : List Bool)
    (others : List (List Bool)) → most < 1000000 → length bytes ≤ 67108864
    → bytes ≡ 49 ∷ 10 ∷ named → IsPropertyLine (length d.bads) named p after_number
    → IsRowLine (length d.latches) after_number first after_first
    → IsRowLine (length d.inputs) after_first input after_input → AreRows (length d.inputs) after_input others most
    → IsStimulusText d bytes p (record { first = first; inputs = input ∷ others })
unfolding IsPropertyLine
put_together d bytes named after_number after_first after_input p most first input others few small begins property first_line
    input_line rows =
    let input_rows : after_first ≡ (input_line.0 ++ 10 ∷ rows.text) ++ 46 ∷ rows.after = input_line.1
    ∙ ap (λ (t : List ℕ). input_line.0 ++ 10 ∷ t) rows.parts
    ∙ sym (append_assoc input_line.0 (10 ∷ rows.text) (46 ∷ rows.after)) in
    let behind : named ≡ (98 ∷ property.0) ++ 10 ∷ (first_line.0 ++ 10 ∷ ((input_line.0 ++ 10 ∷ rows.text) ++ 46 ∷ rows.after))
    = property.1 ∙ ap (λ (t : List ℕ). (98 ∷ property.0) ++ 10 ∷ t)
    (first_line.1 ∙ ap (λ (t : List ℕ). first_line.0 ++ 10 ∷ t) input_rows) in
    record {
      number = property.0;
      first = first_line.0;
      rows = input_line.0 ++ 10 ∷ rows.text;
      after = rows.after;
      bytes_are = begins ∙ ap (λ (t : List ℕ). 49 ∷ 10 ∷ t) behind
          ∙ sym (regroup property.0 first_line.0 (input_line.0 ++ 10 ∷ rows.text) rows.after);
      ends = rows.ends;
      property = property.2;
      known = property.3;
      first_row = first_line.2;
      latches = first_line.3;
      input_rows = (input_line.0, rows.text, input_line.2, refl, rows.lines);
      inputs = All-cons (λ b. length b ≡ length d.inputs) input others input_line.3 rows.widths;
      some = omega arith;
      most = omega (arith, rows.few);
      small = small;
    }

moved : (d : Netlist) (bytes : List ℕ) (p : ℕ) (first : List Bool) (inputs others : List (List Bool)) (x : ℕ × Trace)
    → inputs ≡ others → ◌≡◌ {A = Result (ℕ × Trace) StimRefusal} (Ok (p, record { first = first; inputs = others })) (Ok x)
    → IsStimulusText d bytes p (record { first = first; inputs = inputs }) → IsStimulusText d bytes x.0 x.1
moved d bytes p first inputs others x same is text =
    subst (λ (y : ℕ × Trace). IsStimulusText d bytes y.0 y.1)
    (ap (λ (rows : List (List Bool)). (p, record { first = first; inputs = rows })) same
    ∙ ok_is {F = StimRefusal} (p, record { first = first; inputs = others }) x is) text

stimulus_takes : (most : ℕ) (d : Netlist) (bytes : List ℕ) (x : ℕ × Trace) → most < 1000000 → length bytes ≤ 67108864
    → stimulus_at most d bytes ≡ Ok x → IsStimulusText d bytes x.0 x.1
unfolding stimulus_at
stimulus_takes most d bytes x few small h =
    let named = bind_ok (after_one bytes) _ x h in
    let property = bind_ok (property_at (length d.bads) named.0) _ x named.2 in
    let first = bind_ok (row_at (length d.latches) 3 property.0.1) _ x property.2 in
    let input = bind_ok (row_at (length d.inputs) 4 first.0.1) _ x first.2 in
    let rows = bind_ok (with_rows (input.0.0 ∷ []) (rows_at (length d.inputs) most 5 input.0.1)) _ x input.2 in
    let others = bind_ok (rows_at (length d.inputs) most 5 input.0.1) _ rows.0 rows.1 in
    let text = put_together d bytes named.0 property.0.1 first.0.1 input.0.1 property.0.0 most first.0.0 input.0.0 others.0 few
    small (one_takes bytes named.0 named.1)
    (property_line (length d.bads) named.0 property.0 property.1) (row_line (length d.latches) 3 property.0.1 first.0 first.1)
    (row_line (length d.inputs) 4 first.0.1 input.0 input.1)
    (rows_take (length d.inputs) most 5 input.0.1 others.0 others.1) in
    let all_rows = ok_is {F = StimRefusal} (input.0.0 ∷ others.0) rows.0 others.2 in
    moved d bytes property.0.0 first.0.0 (input.0.0 ∷ others.0) rows.0 x all_rows rows.2 text

pub text_takes : (d : Netlist) (bytes : List ℕ) (p : ℕ) (m : Trace) → stimulus_of d bytes ≡ Ok (p, m) → IsStimulusText d bytes p m
unfolding stimulus_of
text_takes d bytes p m h =
    let read = not_large (ltb 67108864 (length bytes)) (stimulus_at 999999 d bytes) (p, m) h in
    stimulus_takes 999999 d bytes (p, m) (omega arith) (ltb-false 67108864 (length bytes) read.0) read.1
  where
    not_large : (t : Bool) (r : Result (ℕ × Trace) StimRefusal) (x : ℕ × Trace) → cond t (Err TooLarge) r ≡ Ok x → (t ≡ false)
        × (r ≡ Ok x)
    not_large true r x e = absurd cc
    not_large false r x e = (refl, e)

-- ---- the same text is read again

one_again : (rest : List ℕ) → after_one (49 ∷ 10 ∷ rest) ≡ Ok rest
unfolding after_one
one_again rest = rw (due_again 1 (49 ∷ []) rest ((λ e. absurd (omega arith)), tt)) refl

property_again : (count : ℕ) (number rest : List ℕ) (p : ℕ) → IsNumber number p → p < count
    → property_at count ((98 ∷ number) ++ 10 ∷ rest) ≡ Ok (p, rest)
unfolding property_at
property_again count number rest p h lt = rw
    (due_again 2 (98 ∷ number) rest (IsOneLine-property number p h), known_again count number p h lt) refl

row_again : (width number : ℕ) (line rest : List ℕ) (bits : List Bool) → IsRowText line bits → length bits ≡ width
    → row_at width number (line ++ 10 ∷ rest) ≡ Ok (bits, rest)
unfolding row_at
row_again width number line rest bits h e = rw
    (due_again number line rest (IsOneLine-row line bits h), bits_again width number line bits h e) refl

stimulus_again : (most : ℕ) (d : Netlist) (bytes : List ℕ) (p : ℕ) (first : List Bool) (inputs : List (List Bool))
    → length inputs ≤ suc most → IsStimulusText d bytes p (record { first = first; inputs = inputs })
    → stimulus_at most d bytes ≡ Ok (p, record { first = first; inputs = inputs })
unfolding stimulus_at
stimulus_again most d bytes p first [] few h = absurd (omega (arith, h.some))
stimulus_again most d bytes p first (input ∷ others) few h =
    let line = h.input_rows.0 in
    let behind = h.input_rows.1 ++ 46 ∷ h.after in
    let rows : h.rows ++ 46 ∷ h.after ≡ line ++ 10 ∷ behind = ap (λ (t : List ℕ). t ++ 46 ∷ h.after) h.input_rows.3
    ∙ append_assoc line (10 ∷ h.input_rows.1) (46 ∷ h.after) in
    let whole : bytes ≡ 49 ∷ 10 ∷ ((98 ∷ h.number) ++ 10 ∷ (h.first ++ 10 ∷ (line ++ 10 ∷ behind)))
    = h.bytes_are ∙ (regroup h.number h.first h.rows h.after
    ∙ ap (λ (t : List ℕ). 49 ∷ 10 ∷ ((98 ∷ h.number) ++ 10 ∷ (h.first ++ 10 ∷ t))) rows) in
    ap (stimulus_at most d) whole ∙ rw (
      one_again ((98 ∷ h.number) ++ 10 ∷ (h.first ++ 10 ∷ (line ++ 10 ∷ behind))),
      property_again (length d.bads) h.number (h.first ++ 10 ∷ (line ++ 10 ∷ behind)) p h.property h.known,
      row_again (length d.latches) 3 h.first (line ++ 10 ∷ behind) first h.first_row h.latches,
      row_again (length d.inputs) 4 line behind input h.input_rows.2
          (All-head (λ b. length b ≡ length d.inputs) input others h.inputs),
      rows_again (length d.inputs) most 5 h.input_rows.1 h.after others h.input_rows.4
          (All-tail (λ b. length b ≡ length d.inputs) input others h.inputs) h.ends (omega arith),
    ) refl

pub text_again : (d : Netlist) (bytes : List ℕ) (p : ℕ) (m : Trace) → IsStimulusText d bytes p m → stimulus_of d bytes ≡ Ok (p, m)
unfolding stimulus_of
text_again d bytes p m h =
    rw (le-ltb 67108864 (length bytes) h.small) (stimulus_again 999999 d bytes p m.first m.inputs (omega (arith, h.most)) h)

-- a text spells one stimulus of a design
pub text_one : (d : Netlist) (bytes : List ℕ) (p q : ℕ) (m n : Trace) → IsStimulusText d bytes p m → IsStimulusText d bytes q n
    → (p ≡ q) × (m ≡ n)
text_one d bytes p q m n g h =
    let same : ◌≡◌ {A = Result (ℕ × Trace) StimRefusal} (Ok (p, m)) (Ok (q, n)) = sym (text_again d bytes p m g)
    ∙ text_again d bytes q n h in
    let parts = ok_is {F = StimRefusal} (p, m) (q, n) same in
    (ap (λ (x : ℕ × Trace). x.0) parts, ap (λ (x : ℕ × Trace). x.1) parts)

-- a text that spells a stimulus is not refused
pub not_refused : (e : OrMemory StimRefusal) (d : Netlist) (bytes : List ℕ) → Fails e (stimulus_of d bytes) → (p : ℕ) (m : Trace)
    → IsStimulusText d bytes p m → IfRefused {T = ℕ × Trace} (Err e) (λ _. ⊥)
not_refused or_memory.Memory d bytes h p m spelled = tt
not_refused (or_memory.Refused r) d bytes h p m spelled =
    let wrong : ◌≡◌ {A = Result (ℕ × Trace) StimRefusal} (Ok (p, m)) (Err r) = sym (text_again d bytes p m spelled)
    ∙ h in absurd cc

-- a text is read or refused
pub spells_or_is_refused : (d : Netlist) (bytes : List ℕ) → ((p : ℕ) × (m : Trace) × IsStimulusText d bytes p m)
    ⊎ ((r : StimRefusal) × IsFirstRefusal d bytes r)
spells_or_is_refused d bytes = by_reading (stimulus_of d bytes) refl
  where
    by_reading : (read : Result (ℕ × Trace) StimRefusal) → stimulus_of d bytes ≡ read
        → ((p : ℕ) × (m : Trace) × IsStimulusText d bytes p m) ⊎ ((r : StimRefusal) × IsFirstRefusal d bytes r)
    by_reading (Ok x) h = inl (x.0, x.1, text_takes d bytes x.0 x.1 h)
    by_reading (Err r) h = inr (r, h)
