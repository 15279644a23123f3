-- The whole text: what is read, it says, and what it says is read.
use Rattle.std.proofs.Common.{◌≡◌, ℕ, ◌<◌, ◌≤◌, ◌↔◌, ◌⊎◌, inl, inr, Bool, true, false, not, cond, ltb, List, [], ◌∷◌, length, get_or, replicate, Result, Ok, Err, refl, sym, ap, subst, ◌∙◌, arith, ltb-false, le-ltb}
use Rattle.std.specs.Prelude.{All, Contains}
use Rattle.std.specs.List.{join_with_byte}
use Rattle.std.specs.Str.{bytes_eq}
use Rattle.std.proofs.lemmas.Bool.{false≢true}
use Rattle.std.proofs.lemmas.List.{length-replicate, get_or-replicate}
use Rattle.std.proofs.lemmas.List.Elements.{All-tail}
use Rattle.std.proofs.lemmas.Slice.Eq.{bytes_eq-Decides}
use Rattle.ja_base.specs.declared.memory.OrMemory.{OrMemory}
use Rattle.ja_base.specs.declared.memory.OrMemory.TheVariants as or_memory
use Rattle.ja_base.specs.Answers.{IfRefused}
use Rattle.ja_base.specs.Literals.{bit}
use Rattle.ja_text.specs.Lines.{IsOneLine, line_at}
use Rattle.ja_text.specs.Reading.{◌>>=◌, Fails as ReadingFails}
use Rattle.ja_text.proofs.LineLemmas.{line_none}
use Rattle.ja_text.proofs.ReadingLemmas.{bind_ok, ok_is}
use Rattle.aig_model.specs.Netlist.{Netlist}
use Rattle.expect_file.specs.declared.line.Entry.{Entry}
use Rattle.expect_file.specs.declared.found.Found.{Found}
use Rattle.expect_file.specs.declared.refusal.ExpectRefusal.{ExpectRefusal}
use Rattle.expect_file.specs.declared.refusal.ExpectRefusal.TheVariants.{Line, TooLarge}
use Rattle.expect_file.specs.FirstRefusal.{IsFirstRefusal}
use Rattle.expect_file.specs.ExpectationsText.{opening, IsExpectations}
use Rattle.expect_file.specs.ExpectationsReading.{parts, lines_read, nothing_found, all_read, expectations_of}
use Rattle.expect_file.proofs.PartsLemmas.{parts_are_lines, parts_joined, parts_again}
use Rattle.expect_file.proofs.BitLemmas.{same_rows}
use Rattle.expect_file.proofs.LinesLemmas.{IsSized, Fails, Adds, lines_take, lines_again}

nothing_sized : (count : ℕ) → IsSized count (nothing_found count)
nothing_sized count = record { named = length-replicate count false; expect = length-replicate count true }

-- a property is expected to fail where an entry says so
abbrev SaidToFail : ℕ → List Entry → List Bool → Type 0
SaidToFail count entries expected = (i : ℕ) → i < count
    → (bit expected i ≡ false) ↔ Contains entries (record { property = i; holds = false })

said_to_fail : (count : ℕ) (entries : List Entry) (expected : List Bool) → Fails count (replicate count true) entries expected
    → SaidToFail count entries expected
said_to_fail count entries expected h i within = (
  λ e. elim ((h i within).0 e) [
    | inl held ↦ absurd
        (false≢true (sym held ∙ get_or-replicate count i true false within))
    | inr said ↦ said
  ],
  λ said. (h i within).1 (inr said),
)

-- ---- what is read, the text says

-- the lines are the first one, and others that say what is expected
record AllSay (count : ℕ) (lines : List (List ℕ)) (expected : List Bool) : Type 0 where
  others : List (List ℕ)
  lines_are : lines ≡ opening ∷ others
  last : Found
  adds : Adds count (nothing_found count) others last
  expected_is : last.expect ≡ expected

all_step : (t : Bool) (count : ℕ) (first : List ℕ) (lines : List (List ℕ)) (expected : List Bool) → bytes_eq first opening ≡ t
    → cond (not t) (Err (Line 1)) (lines_read 2 (nothing_found count) lines >>= λ found. Ok found.expect) ≡ Ok expected
    → AllSay count (first ∷ lines) expected
all_step false count first lines expected e h = absurd cc
all_step true count first lines expected e h =
    let last = bind_ok (lines_read 2 (nothing_found count) lines) (λ found. Ok found.expect) expected h in
    record {
      others = lines;
      lines_are = ap (λ (line : List ℕ). line ∷ lines) ((bytes_eq-Decides first opening).0 e);
      last = last.0;
      adds = lines_take count 2 (nothing_found count) last.0 lines (nothing_sized count) last.1;
      expected_is = ok_is {F = ExpectRefusal} last.0.expect expected last.2;
    }

all_take : (count : ℕ) (lines : List (List ℕ)) (expected : List Bool) → all_read count lines ≡ Ok expected
    → AllSay count lines expected
unfolding all_read
all_take count [] expected h = absurd cc
all_take count (first ∷ lines) expected h = all_step (bytes_eq first opening) count first lines expected refl h

text_says : (d : Netlist) (bytes : List ℕ) (expected : List Bool) → length bytes ≤ 4194304
    → AllSay (length d.bads) (parts bytes) expected → IsExpectations d bytes expected
text_says d bytes expected small say =
    let sized = subst (λ (e : List Bool). length e ≡ length d.bads) say.expected_is say.adds.sized.expect in
    let fails_are = subst (SaidToFail (length d.bads) say.adds.entries) say.expected_is
    (said_to_fail (length d.bads) say.adds.entries say.last.expect say.adds.fails_are) in
    record {
      lines = say.others;
      entries = say.adds.entries;
      bytes_are = sym (parts_joined bytes) ∙ ap (join_with_byte 10) say.lines_are;
      each_line = All-tail IsOneLine opening say.others (subst (All IsOneLine) say.lines_are (parts_are_lines bytes));
      says = say.adds.says;
      known = say.adds.known;
      once = say.adds.once;
      all = sized;
      fails = fails_are;
      small = small;
    }

pub text_takes : (d : Netlist) (bytes : List ℕ) (expected : List Bool) → expectations_of d bytes ≡ Ok expected
    → IsExpectations d bytes expected
unfolding expectations_of
text_takes d bytes expected h =
    let read = not_large (ltb 4194304 (length bytes)) (all_read (length d.bads) (parts bytes)) h in
    text_says d bytes expected (ltb-false 4194304 (length bytes) read.0) (all_take (length d.bads) (parts bytes) expected read.1)
  where
    not_large : (t : Bool) (r : Result (List Bool) ExpectRefusal) → cond t (Err TooLarge) r ≡ Ok expected → (t ≡ false)
        × (r ≡ Ok expected)
    not_large true r e = absurd cc
    not_large false r e = (refl, e)

-- ---- what the text says is read

opening_is_one_line : IsOneLine opening
unfolding line_at
opening_is_one_line = line_none opening refl

none_named : (count : ℕ) (entries : List Entry) → All (λ e. e.property < count) entries
    → All (λ e. bit (nothing_found count).named e.property ≡ false) entries
none_named count entries known k d within = get_or-replicate count (get_or entries k d).property false false (known k d within)

all_again : (count : ℕ) (lines : List (List ℕ)) (last : Found) → lines_read 2 (nothing_found count) lines ≡ Ok last
    → all_read count (opening ∷ lines) ≡ Ok last.expect
unfolding all_read
all_again count lines last h = rw h refl

pub text_again : (d : Netlist) (bytes : List ℕ) (expected : List Bool) → IsExpectations d bytes expected
    → expectations_of d bytes ≡ Ok expected
unfolding expectations_of
text_again d bytes expected h =
    let count = length d.bads in
    let cut : parts bytes ≡ opening ∷ h.lines = ap parts h.bytes_are
    ∙ parts_again opening h.lines opening_is_one_line h.each_line in
    let read = lines_again count 2 (nothing_found count) h.lines h.entries (nothing_sized count) h.says
    (record { known = h.known; once = h.once; new = none_named count h.entries h.known }) in
    let same = same_expected count h.entries read.last.expect expected read.sized.expect h.all
    (said_to_fail count h.entries read.last.expect read.fails_are) h.fails in
    rw (le-ltb 4194304 (length bytes) h.small, cut)
    (all_again count h.lines read.last read.read ∙ ap (λ (row : List Bool). Ok row) same)
  where
    same_expected : (count : ℕ) (entries : List Entry) (a b : List Bool) → length a ≡ count → length b ≡ count
        → SaidToFail count entries a → SaidToFail count entries b → a ≡ b
    same_expected count entries a b sized_a sized_b fails_a fails_b =
        same_rows a b (sized_a ∙ sym sized_b) (λ i within. let below : i < count = omega arith in
        (λ e. (fails_b i below).1 ((fails_a i below).0 e), λ e. (fails_a i below).1 ((fails_b i below).0 e)))

-- a text says one thing of the properties of a design
pub text_one : (d : Netlist) (bytes : List ℕ) (a b : List Bool) → IsExpectations d bytes a → IsExpectations d bytes b → a ≡ b
text_one d bytes a b g h = ok_is {F = ExpectRefusal} a b (sym (text_again d bytes a g) ∙ text_again d bytes b h)

-- a text that says what is expected is not refused
pub not_refused : (e : OrMemory ExpectRefusal) (d : Netlist) (bytes : List ℕ) → ReadingFails e (expectations_of d bytes)
    → (expected : List Bool) → IsExpectations d bytes expected → IfRefused {T = List Bool} (Err e) (λ _. ⊥)
not_refused or_memory.Memory d bytes h expected says = tt
not_refused (or_memory.Refused r) d bytes h expected says =
    let wrong : ◌≡◌ {A = Result (List Bool) ExpectRefusal} (Ok expected) (Err r) = sym (text_again d bytes expected says)
    ∙ h in absurd cc

-- a text is read or refused
pub spells_or_is_refused : (d : Netlist) (bytes : List ℕ) → ((expected : List Bool) × IsExpectations d bytes expected)
    ⊎ ((r : ExpectRefusal) × IsFirstRefusal d bytes r)
spells_or_is_refused d bytes = by_reading (expectations_of d bytes) refl
  where
    by_reading : (read : Result (List Bool) ExpectRefusal) → expectations_of d bytes ≡ read
        → ((expected : List Bool) × IsExpectations d bytes expected) ⊎ ((r : ExpectRefusal) × IsFirstRefusal d bytes r)
    by_reading (Ok expected) h = inl (expected, text_takes d bytes expected h)
    by_reading (Err r) h = inr (r, h)
