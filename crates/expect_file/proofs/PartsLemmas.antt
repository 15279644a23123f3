-- A text is cut at each LF, and the lines give the text back.
use Rattle.std.proofs.Common.{◌≡◌, ◌≢◌, ℕ, Bool, true, false, cond, eqb, List, [], ◌∷◌, Some, None, refl, ap, ◌∙◌, arith}
use Rattle.std.specs.Prelude.{All}
use Rattle.std.specs.List.{AllByRecursion, onto_first, join_with_byte}
use Rattle.std.proofs.lemmas.Bool.{eqb-false}
use Rattle.std.proofs.lemmas.Bool.Decides.{nat_tests}
use Rattle.std.proofs.lemmas.List.Elements.{All-from_recursion, All-weaker, All-head, All-tail}
use Rattle.std.proofs.lemmas.List.Splits.{slice_split_none, slice_split_at, join_with_byte-slice_split}
use Rattle.ja_text.specs.Lines.{IsOneLine, line_at}
use Rattle.ja_text.proofs.LineLemmas.{line_takes, line_none}
use Rattle.expect_file.specs.ExpectationsReading.{parts}

-- ---- a text and its lines

cut_step : (t : Bool) (b : ℕ) (lines : List (List ℕ)) → eqb b 10 ≡ t → AllByRecursion IsOneLine lines
    → AllByRecursion IsOneLine (cond t ([] ∷ lines) (onto_first b lines))
cut_step true b lines e each = (tt, each)
cut_step false b [] e each = ((eqb-false b 10 e, tt), tt)
cut_step false b (line ∷ lines) e each = ((eqb-false b 10 e, each.0), each.1)

each_part : (bytes : List ℕ) → AllByRecursion IsOneLine (parts bytes)
each_part [] = (tt, tt)
each_part (b ∷ bs) = cut_step (eqb b 10) b (parts bs) refl (each_part bs)

pub parts_are_lines : (bytes : List ℕ) → All IsOneLine (parts bytes)
parts_are_lines bytes = All-from_recursion IsOneLine (parts bytes) (each_part bytes)

pub parts_joined : (bytes : List ℕ) → join_with_byte 10 (parts bytes) ≡ bytes
parts_joined bytes = join_with_byte-slice_split 10 bytes

uncut : (line : List ℕ) → IsOneLine line → All (λ b. eqb b 10 ≡ false) line
uncut line h = All-weaker (λ b. b ≢ 10) (λ b. eqb b 10 ≡ false) (λ b ne. grind (arith, nat_tests)) line
    (All-from_recursion (λ b. b ≢ 10) line h)

pub parts_again : (line : List ℕ) (lines : List (List ℕ)) → IsOneLine line → All IsOneLine lines
    → parts (join_with_byte 10 (line ∷ lines)) ≡ line ∷ lines
parts_again line [] h each = slice_split_none (λ b. eqb b 10) line (uncut line h)
parts_again line (next ∷ lines) h each =
    slice_split_at (λ b. eqb b 10) line 10 (join_with_byte 10 (next ∷ lines)) (uncut line h) refl
    ∙ ap (λ (others : List (List ℕ)). line ∷ others)
    (parts_again next lines (All-head IsOneLine next lines each) (All-tail IsOneLine next lines each))

-- ---- the first line

pub parts_more : (bytes line rest : List ℕ) → line_at bytes ≡ Some (line, rest) → parts bytes ≡ line ∷ parts rest
parts_more bytes line rest h =
    let t = line_takes bytes (line, rest) h in
    ap parts t.parts ∙ slice_split_at (λ b. eqb b 10) line 10 rest (uncut line t.one_line) refl

pub parts_last : (bytes : List ℕ) → line_at bytes ≡ None → parts bytes ≡ bytes ∷ []
parts_last bytes h = slice_split_none (λ b. eqb b 10) bytes (uncut bytes (line_none bytes h))
