-- Lines one after another.
use Rattle.std.proofs.Common.{◌≡◌, ℕ, ◌+◌, ◌-◌, ◌<◌, ◌≤◌, List, [], ◌∷◌, ◌++◌, length, refl, sym, ap, subst, ◌∙◌, arith}
use Rattle.std.specs.List.{flat_map}
use Rattle.std.proofs.lemmas.List.{append-nil, length-append, nil_from_length}
use Rattle.ja_text.specs.Repeated.{Chain}
use Rattle.refute_check.specs.declared.lines.Line.{Line}
use Rattle.refute_text.specs.RefutationText.{spaced, line_text, refutation_text, IsLine, AreLines, TakesLine, IsFirstBadLine, Spells}
use Rattle.refute_text.specs.Reading.{TakesNone, TakesAll}
use Rattle.refute_text.proofs.ChainLemmas.{all_agree, Chain-spelled, Chain-good, regroup}
use Rattle.refute_text.proofs.LineLemmas.{line_one}

lines_chain : (lines : List Line) (rest : List ℕ) → AreLines lines → Chain TakesLine (refutation_text lines ++ rest) lines rest
lines_chain [] rest are = refl
lines_chain (line ∷ lines) rest are = (
  refutation_text lines ++ rest,
  record {
    is_line = are.0;
    parts = regroup line_text line lines rest;
  },
  lines_chain lines rest are.1,
)

pub line_is_some : (bytes : List ℕ) (line : Line) (rest : List ℕ) → TakesLine bytes line rest → length rest < length bytes
line_is_some bytes line rest t =
    let text = flat_map spaced line.clause ++ 32 ∷ 59 ∷ flat_map spaced line.hints in
    let some : length (line_text line) ≡ length text + 1 = length-append text (10 ∷ []) in
    omega (arith, ap length t.parts, length-append (line_text line) rest)

nothing_left : TakesNone TakesLine []
nothing_left = λ line rest t. let less = line_is_some [] line rest t in absurd (omega (arith, less))

-- all of a text is taken
whole : (lines : List Line) (bytes : List ℕ) → AreLines lines → bytes ≡ refutation_text lines → TakesAll TakesLine bytes lines []
whole lines bytes are e =
    subst (λ (s : List ℕ). TakesAll TakesLine s lines []) (append-nil (refutation_text lines)
    ∙ sym e) (record { taken = lines_chain lines [] are; ends = nothing_left })

-- what stands before the first line that is none
before : (bytes : List ℕ) (at : ℕ) (bad : IsFirstBadLine bytes at) → TakesAll TakesLine bytes bad.lines bad.rest
before bytes at bad =
    subst (λ (s : List ℕ). TakesAll TakesLine s bad.lines bad.rest) (sym bad.parts)
    (record { taken = lines_chain bad.lines bad.rest bad.are_lines; ends = bad.none })

pub text_one : (bytes : List ℕ) (a b : List Line) → Spells bytes a → Spells bytes b → a ≡ b
text_one bytes a b g h =
    let left = whole a bytes g.are_lines g.text in
    let right = whole b bytes h.are_lines h.text in
    (all_agree TakesLine line_one bytes a [] b [] left right).0

pub bad_one : (bytes : List ℕ) (i j : ℕ) → IsFirstBadLine bytes i → IsFirstBadLine bytes j → i ≡ j
bad_one bytes i j p q =
    let same = (all_agree TakesLine line_one bytes p.lines p.rest q.lines q.rest (before bytes i p) (before bytes j q)).0 in
    p.place ∙ ap (λ (lines : List Line). length (refutation_text lines)) same ∙ sym q.place

pub not_bad : (bytes : List ℕ) (lines : List Line) (at : ℕ) → Spells bytes lines → IsFirstBadLine bytes at → ⊥
not_bad bytes lines at spells bad =
    let taken = whole lines bytes spells.are_lines spells.text in
    let same : [] ≡ bad.rest = (all_agree TakesLine line_one bytes lines [] bad.lines bad.rest taken (before bytes at bad)).1 in
    absurd (omega (arith, ap length same, bad.some))

-- ---- as the reader goes

abbrev spelled : (bytes : List ℕ) (lines : List Line) (rest : List ℕ) → Chain TakesLine bytes lines rest
    → bytes ≡ refutation_text lines ++ rest
spelled bytes lines rest taken = Chain-spelled TakesLine line_text (λ s line t h. h.parts) bytes lines rest taken

are_lines : (bytes : List ℕ) (lines : List Line) (rest : List ℕ) → Chain TakesLine bytes lines rest → AreLines lines
are_lines bytes lines rest taken = Chain-good TakesLine IsLine (λ s line t h. h.is_line) bytes lines rest taken

pub bad_place : (bytes : List ℕ) (lines : List Line) (rest : List ℕ) (at : ℕ) → Chain TakesLine bytes lines rest → 0 < length rest
    → TakesNone TakesLine rest
    → at ≡ length bytes - length rest → IsFirstBadLine bytes at
bad_place bytes lines rest at taken some none place =
    let parts = spelled bytes lines rest taken in
    record {
      lines = lines;
      rest = rest;
      are_lines = are_lines bytes lines rest taken;
      parts = parts;
      place = omega (arith, place, ap length parts, length-append (refutation_text lines) rest);
      some = some;
      none = none;
    }

-- the bytes that were refused are no text
pub no_text : (bytes : List ℕ) (at : ℕ) → IsFirstBadLine bytes at → (lines : List Line) → Spells bytes lines → ⊥
no_text bytes at bad lines spells = not_bad bytes lines at spells bad

pub is_text : (bytes : List ℕ) (lines : List Line) (rest : List ℕ) → Chain TakesLine bytes lines rest → length rest ≡ 0
    → Spells bytes lines
is_text bytes lines rest taken ended =
    let all = ap (λ (v : List ℕ). refutation_text lines ++ v) (nil_from_length rest ended) in
    record {
      are_lines = are_lines bytes lines rest taken;
      text = spelled bytes lines rest taken ∙ all ∙ append-nil (refutation_text lines);
    }

pub only_text : (bytes : List ℕ) (lines : List Line) (rest : List ℕ) → Chain TakesLine bytes lines rest → length rest ≡ 0
    → (others : List Line) → Spells bytes others → lines ≡ others
only_text bytes lines rest taken ended others spells =
    text_one bytes lines others (is_text bytes lines rest taken ended) spells

pub not_longer : (bytes : List ℕ) (lines : List Line) (rest : List ℕ) → Chain TakesLine bytes lines rest
    → length rest ≤ length bytes
not_longer bytes lines rest taken =
    omega (arith, ap length (spelled bytes lines rest taken), length-append (refutation_text lines) rest)
