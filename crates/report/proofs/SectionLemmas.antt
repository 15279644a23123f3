-- The forms of a report have texts, and are whole lines.
use Rattle.std.proofs.Common.{◌≡◌, ℕ, ◌+◌, ◌<◌, ◌≤◌, ◌^◌, true, false, List, [], ◌∷◌, ◌++◌, length, replicate, None, refl, sym, subst, ◌∙◌, arith}
use Rattle.std.specs.Prelude.{⊤, codes, decimal}
use Rattle.std.specs.List.Sorted.{IsStrictlyIncreasing}
use Rattle.std.proofs.lemmas.List.{length-replicate}
use Rattle.store_core.specs.declared.mark.Mark.TheVariants.{Proved}
use Rattle.report.specs.declared.parts.PropLine.{PropLine}
use Rattle.report.specs.Entries.{IsSmallMark}
use Rattle.report.specs.Reports.{prop_words, clause_words}
use Rattle.report.specs.Forms.{Takes, Stops}
use Rattle.report.specs.Sections.{words_form, count_form, sizes_form, prop_form, props_form, IsHeldClause, clause_form, clause_lines_form, set_form, row_form, next_row_form, joined_form, journal_form}
use Rattle.report.proofs.FormLemmas.{HasSome, IsSound, line_sound, read_words}
use Rattle.report.proofs.TimesLemmas.{IsMet, state_behind, times_more, times_ends, times_sound}
use Rattle.report.proofs.DecodeLemmas.{IsOneLine-tested, prop_read, count_read}
use Rattle.report.proofs.NumbersLemmas.{clause_are_words}

-- ---- some value of each line

pub some_words : (words : List ℕ) → HasSome (words_form words)
some_words words = (tt, tt)

pub some_count : (word : List ℕ) → HasSome (count_form word)
some_count word = (0, omega arith)

pub some_sizes : HasSome sizes_form
some_sizes = (
  record { vars = 0; inputs = 0; latches = 0; gates = 0; props = 0; constraints = 0 },
  record {
    vars = omega arith;
    inputs = omega arith;
    latches = omega arith;
    gates = omega arith;
    props = omega arith;
    constraints = omega arith;
  },
)

pub some_prop : (p : ℕ) → HasSome (prop_form p)
some_prop p = (record { assumed = true; mark = Proved }, tt)

pub some_row : (width : ℕ) → HasSome (row_form width)
some_row width = (replicate width false, length-replicate width false)

pub some_next_row : (width : ℕ) → HasSome (next_row_form width)
some_next_row width = (None, tt)

pub some_joined : HasSome joined_form
some_joined = (true, tt)

pub some_journal : (clauses : ℕ) → HasSome (journal_form clauses)
some_journal clauses = (None, tt)

-- ---- lines of properties

pub props_met : IsMet prop_form (λ q _. q + 1) (λ n q. q + n ≤ 4294967296)
props_met = record {
  sound = λ n q m. line_sound (λ l. IsSmallMark l.mark) (prop_words q) (read_words (prop_read q (omega (arith, m))))
      (some_prop q);
  goes_on = λ n q x m fits. omega (arith, m);
}

props_state : (q : ℕ) (ls : List PropLine) → state_behind prop_form (λ k _. k + 1) q ls ≡ q + length ls
props_state q [] = omega arith
props_state q (l ∷ ls) = props_state (q + 1) ls ∙ omega arith

-- the property of the next line
props_at : (i : ℕ) (ls : List PropLine) → length ls ≡ i → state_behind prop_form (λ k _. k + 1) 0 ls ≡ i
props_at i ls len = props_state 0 ls ∙ omega (arith, len)

pub props_more : (bytes : List ℕ) (i : ℕ) (ls : List PropLine) (rest : List ℕ) (l : PropLine) (after : List ℕ)
    → Takes (props_form i 0) bytes ls rest
    → Takes (prop_form i) rest l after → Takes (props_form (i + 1) 0) bytes (ls ++ l ∷ []) after
props_more bytes i ls rest l after t u =
    times_more prop_form (λ q _. q + 1) 0 bytes i ls rest l after t
    (subst (λ (k : ℕ). Takes (prop_form k) rest l after) (sym (props_at i ls t.fits.as_many)) u)

pub props_ends : (count : ℕ) (bytes : List ℕ) (i : ℕ) (ls : List PropLine) (rest : List ℕ) (left : ℕ) → count < 2 ^ 32 → i < count
    → Takes (props_form i 0) bytes ls rest → Stops (prop_form i) rest left → Stops (props_form count 0) bytes left
props_ends count bytes i ls rest left small less t stop =
    times_ends prop_form (λ q _. q + 1) (λ n q. q + n ≤ 4294967296) props_met count 0 bytes i ls rest left (omega (arith, small))
    less t
    (subst (λ (k : ℕ). Stops (prop_form k) rest left) (sym (props_at i ls t.fits.as_many)) stop)

pub props_sound : (count : ℕ) → count < 2 ^ 32 → IsSound (props_form count 0)
props_sound count small = times_sound prop_form (λ q _. q + 1) (λ n q. q + n ≤ 4294967296) props_met count 0
    (omega (arith, small))

-- ---- clauses and sets

nothing_ascends : IsStrictlyIncreasing []
nothing_ascends k less = absurd (omega (arith, less))

pub some_clause : (vars : ℕ) → HasSome (clause_form vars)
some_clause vars = ([], record { form = record { ascends = nothing_ascends; within = tt }; small = tt })

pub some_set : (props : ℕ) → HasSome (set_form props)
some_set props = ([], record { ascends = nothing_ascends; within = tt })

clauses_met : (vars : ℕ) → IsMet {S = ⊤} (λ _. clause_form vars) (λ s _. s) (λ _ _. ⊤)
clauses_met vars = record {
  sound = λ n s m. line_sound (IsHeldClause vars) clause_words (clause_are_words vars) (some_clause vars);
  goes_on = λ n s x m fits. tt;
}

pub clauses_more : (vars : ℕ) (bytes : List ℕ) (i : ℕ) (cs : List (List ℕ)) (rest clause after : List ℕ)
    → Takes (clause_lines_form vars i) bytes cs rest
    → Takes (clause_form vars) rest clause after → Takes (clause_lines_form vars (i + 1)) bytes (cs ++ clause ∷ []) after
clauses_more vars bytes i cs rest clause after t u = times_more {S = ⊤} (λ _. clause_form vars) (λ s _. s) tt bytes i cs rest
    clause after t u

pub clauses_end : (vars count : ℕ) (bytes : List ℕ) (i : ℕ) (cs : List (List ℕ)) (rest : List ℕ) (left : ℕ) → i < count
    → Takes (clause_lines_form vars i) bytes cs rest → Stops (clause_form vars) rest left
    → Stops (clause_lines_form vars count) bytes left
clauses_end vars count bytes i cs rest left less t stop =
    times_ends {S = ⊤} (λ _. clause_form vars) (λ s _. s) (λ _ _. ⊤) (clauses_met vars) count tt bytes i cs rest left tt less t
    stop

pub clauses_sound : (vars count : ℕ) → IsSound (clause_lines_form vars count)
clauses_sound vars count = times_sound {S = ⊤} (λ _. clause_form vars) (λ s _. s) (λ _ _. ⊤) (clauses_met vars) count tt tt

pub clause_count_sound : IsSound (count_form (codes "clauses "))
clause_count_sound =
    line_sound (λ n. n < 2 ^ 32) (λ n. codes "clauses " ++ decimal n)
    (read_words (count_read (codes "clauses ") (IsOneLine-tested (codes "clauses ") refl)))
    (some_count (codes "clauses "))
