-- A line is read as it is spelled, and what is spelled so is read so.
use Rattle.std.proofs.Common.{◌≡◌, ℕ, ◌<◌, ◌^◌, Bool, true, false, List, [], ◌∷◌, ◌++◌, Option, Some, None, refl, sym, ap, subst, ◌∙◌, append_assoc}
use Rattle.std.specs.Prelude.{IsTrue, ◌↔◌}
use Rattle.std.specs.List.{flat_map}
use Rattle.std.specs.List.Sorted.{IsStrictlyIncreasing}
use Rattle.ja_text.specs.Numbers.{number_at}
use Rattle.ja_text.specs.Lines.{space_at, newline_at, word_at}
use Rattle.ja_text.proofs.ByteLemmas.{word_takes, word_again, newline_takes, newline_again}
use Rattle.refute_check.specs.declared.lines.Line.{Line}
use Rattle.refute_text.specs.RefutationText.{spaced, line_text, AreSmall, TakesLine}
use Rattle.refute_text.specs.Reading.{TakesSpaced, TakesNone, TakesAll, spaced_at}
use Rattle.refute_text.proofs.ChainLemmas.{IsOne, all_agree, Chain-spelled, Chain-good}
use Rattle.refute_text.proofs.NumberLemmas.{spaced_again, spaced_one, spaced_all}

-- what stands between literals and hints
abbrev pub mark : List ℕ
mark = 32 ∷ 59 ∷ []

-- what follows the literals, and the hints
abbrev behind_lits : List ℕ → List ℕ → List ℕ
behind_lits hints after = 32 ∷ 59 ∷ (flat_map spaced hints ++ 10 ∷ after)

mark_none : (x : List ℕ) → TakesNone TakesSpaced (32 ∷ 59 ∷ x)
unfolding spaced_at space_at number_at
mark_none x = λ n rest t. let read : ◌≡◌ {A = Option (ℕ × List ℕ)} None (Some (n, rest)) =
    spaced_again (32 ∷ 59 ∷ x) n rest t in absurd cc

newline_none : (x : List ℕ) → TakesNone TakesSpaced (10 ∷ x)
unfolding spaced_at space_at
newline_none x = λ n rest t. let read : ◌≡◌ {A = Option (ℕ × List ℕ)} None (Some (n, rest)) =
    spaced_again (10 ∷ x) n rest t in absurd cc

line_parts : (line : Line) (after : List ℕ)
    → line_text line ++ after ≡ flat_map spaced line.clause ++ behind_lits line.hints after
line_parts line after =
    append_assoc (flat_map spaced line.clause ++ 32 ∷ 59 ∷ flat_map spaced line.hints) (10 ∷ []) after
    ∙ append_assoc (flat_map spaced line.clause) (32 ∷ 59 ∷ flat_map spaced line.hints) (10 ∷ after)

lits_of_line : (bytes : List ℕ) (line : Line) (after : List ℕ) → TakesLine bytes line after
    → TakesAll TakesSpaced bytes line.clause (behind_lits line.hints after)
lits_of_line bytes line after t =
    subst (λ (s : List ℕ). TakesAll TakesSpaced s line.clause (behind_lits line.hints after))
    (sym (t.parts ∙ line_parts line after))
    (spaced_all line.clause (behind_lits line.hints after) t.is_line.lits refl
    (mark_none (flat_map spaced line.hints ++ 10 ∷ after)))

hints_of_line : (hints after : List ℕ) → AreSmall hints
    → TakesAll TakesSpaced (flat_map spaced hints ++ 10 ∷ after) hints (10 ∷ after)
hints_of_line hints after small = spaced_all hints (10 ∷ after) small refl (newline_none after)

-- the numbers at the front of a line are its literals
is_clause : (bytes : List ℕ) (line : Line) (after ns rest : List ℕ) → TakesLine bytes line after
    → TakesAll TakesSpaced bytes ns rest
    → (ns ≡ line.clause) × (rest ≡ behind_lits line.hints after)
is_clause bytes line after ns rest t all = all_agree TakesSpaced spaced_one bytes ns rest line.clause
    (behind_lits line.hints after) all (lits_of_line bytes line after t)

-- and those behind the mark its hints
are_hints : (bytes : List ℕ) (line : Line) (after ns rest behind hs last : List ℕ) → TakesLine bytes line after
    → TakesAll TakesSpaced bytes ns rest
    → rest ≡ mark ++ behind → TakesAll TakesSpaced behind hs last → (hs ≡ line.hints) × (last ≡ 10 ∷ after)
are_hints bytes line after ns rest behind hs last t all marked hints =
    let same : 32 ∷ 59 ∷ behind ≡ behind_lits line.hints after = sym marked ∙ (is_clause bytes line after ns rest t all).1 in
    let is : flat_map spaced line.hints ++ 10 ∷ after ≡ behind = cc in
    all_agree TakesSpaced spaced_one behind hs last line.hints (10 ∷ after) hints
    (subst (λ (s : List ℕ). TakesAll TakesSpaced s line.hints (10 ∷ after)) is (hints_of_line line.hints after t.is_line.hints))

-- ---- how reading ends

pub no_mark : (bytes ns rest : List ℕ) → TakesAll TakesSpaced bytes ns rest → word_at mark rest ≡ None → TakesNone TakesLine bytes
no_mark bytes ns rest all e = λ line after t.
    let marked : rest ≡ behind_lits line.hints after = (is_clause bytes line after ns rest t all).1 in
    let read : word_at mark rest ≡ Some (flat_map spaced line.hints ++ 10 ∷ after) = ap (word_at mark) marked
    ∙ word_again mark (flat_map spaced line.hints ++ 10 ∷ after) in
    absurd cc

pub does_not_ascend : (bytes ns rest : List ℕ) → TakesAll TakesSpaced bytes ns rest → (IsStrictlyIncreasing ns → ⊥)
    → TakesNone TakesLine bytes
does_not_ascend bytes ns rest all not_up = λ line after t.
    not_up (subst IsStrictlyIncreasing (sym (is_clause bytes line after ns rest t all).0) t.is_line.ascends)

-- what a test says
pub not_ascending : (b : Bool) (given ns : List ℕ) → b ≡ false → IsTrue b ↔ IsStrictlyIncreasing given → given ≡ ns
    → IsStrictlyIncreasing ns → ⊥
not_ascending true given ns e h same up = absurd cc
not_ascending false given ns e h same up = let wrong = h.1 (subst IsStrictlyIncreasing (sym same) up) in absurd cc

pub ascending : (b : Bool) (given ns : List ℕ) → b ≡ true → IsTrue b ↔ IsStrictlyIncreasing given → given ≡ ns
    → IsStrictlyIncreasing ns
ascending true given ns e h same = subst IsStrictlyIncreasing same (h.0 refl)
ascending false given ns e h same = absurd cc

pub no_newline : (bytes ns rest behind hs last : List ℕ) → TakesAll TakesSpaced bytes ns rest → word_at mark rest ≡ Some behind
    → TakesAll TakesSpaced behind hs last → newline_at last ≡ None → TakesNone TakesLine bytes
no_newline bytes ns rest behind hs last all marked hints e = λ line after t.
    let is : last ≡ 10 ∷ after =
    (are_hints bytes line after ns rest behind hs last t all (word_takes mark rest behind marked) hints).1 in
    let read : newline_at last ≡ Some after = ap newline_at is ∙ newline_again after in
    absurd cc

small_numbers : (bytes ns rest : List ℕ) → TakesAll TakesSpaced bytes ns rest → AreSmall ns
small_numbers bytes ns rest all =
    Chain-good TakesSpaced (λ (n : ℕ). n < 2 ^ 32) (λ s n t taken. taken.small) bytes ns rest all.taken

spelled : (bytes ns rest : List ℕ) → TakesAll TakesSpaced bytes ns rest → bytes ≡ flat_map spaced ns ++ rest
spelled bytes ns rest all = Chain-spelled TakesSpaced spaced (λ s n t taken. taken.parts) bytes ns rest all.taken

pub line_is_taken : (bytes ns rest behind hs last after : List ℕ) (line : Line) → TakesAll TakesSpaced bytes ns rest
    → word_at mark rest ≡ Some behind
    → IsStrictlyIncreasing ns → TakesAll TakesSpaced behind hs last → newline_at last ≡ Some after → line.clause ≡ ns
    → line.hints ≡ hs → TakesLine bytes line after
line_is_taken bytes ns rest behind hs last after line all marked up hints ended clause_is hints_are =
    let tail : behind ≡ flat_map spaced hs ++ 10 ∷ after = spelled behind hs last hints
    ∙ ap (λ (v : List ℕ). flat_map spaced hs ++ v) (newline_takes last after ended) in
    let whole : bytes ≡ flat_map spaced ns ++ behind_lits hs after
    = spelled bytes ns rest all ∙ ap (λ (v : List ℕ). flat_map spaced ns ++ v) (word_takes mark rest behind marked
    ∙ ap (λ (v : List ℕ). 32 ∷ 59 ∷ v) tail) in
    let read : Line = record { clause = ns; hints = hs } in
    let same : read ≡ line = sym (ap (λ (c : List ℕ). record { clause = c; hints = line.hints }) clause_is
    ∙ ap (λ (h : List ℕ). record { clause = ns; hints = h }) hints_are) in
    subst (λ (l : Line). TakesLine bytes l after) same
    (record {
      is_line = record { ascends = up; lits = small_numbers bytes ns rest all; hints = small_numbers behind hs last hints };
      parts = whole ∙ sym (line_parts read after);
    })

-- no bytes begin with two lines
pub line_one : IsOne TakesLine
line_one s a t b u p q =
    let clauses = is_clause s a t b.clause (behind_lits b.hints u) p (lits_of_line s b u q) in
    let hints = are_hints s a t b.clause (behind_lits b.hints u) (flat_map spaced b.hints ++ 10 ∷ u) b.hints (10 ∷ u) p
    (lits_of_line s b u q) refl (hints_of_line b.hints u q.is_line.hints) in
    let same : a ≡ b = sym (ap (λ (c : List ℕ). record { clause = c; hints = b.hints }) clauses.0
    ∙ ap (λ (h : List ℕ). record { clause = a.clause; hints = h }) hints.0) in
    let rest : 10 ∷ u ≡ 10 ∷ t = hints.1 in
    let end : t ≡ u = cc in
    (same, end)
