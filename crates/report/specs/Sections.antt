-- The forms of which the text of a report is made.
use Rattle.std.specs.Prelude.{◌≡◌, ℕ, ◌+◌, ◌<◌, ◌^◌, ⊤, Bool, true, false, List, [], ◌∷◌, ◌++◌, length, map, flat_map, codes, decimal, Option, Some, None, IfSome, Result, Ok, Err}
use Rattle.std.specs.List.{AllByRecursion}
use Rattle.std.specs.List.Sorted.{IsStrictlyIncreasing}
use Rattle.local_stim.specs.StimulusText.{bit_character, row_line}
use Rattle.store_core.specs.declared.mark.Mark.{Mark}
use Rattle.report.specs.declared.parts.PropLine.{PropLine}
use Rattle.report.specs.declared.parts.PropStim.{PropStim}
use Rattle.report.specs.declared.parts.Sizes.{Sizes}
use Rattle.report.specs.Entries.{IsSmallMark}
use Rattle.report.specs.Findings.{failing_from}
use Rattle.report.specs.Reports.{IsReportClause, HasWidths, AreSmallSizes, sizes_words, prop_words, clause_words, stimulus_lines, joined_words, set_words}
use Rattle.ja_base.specs.declared.memory.OrMemory.{OrMemory}
use Rattle.report.specs.declared.line.BadLine.{BadLine}
use Rattle.report.specs.Forms.{Form, Takes, Fails, line_form, then, times}

-- these words, in a line
abbrev pub words_form : List ℕ → Form ⊤
words_form words = line_form (λ _. ⊤) (λ _. words)

-- a word and this number
abbrev pub named_form : List ℕ → ℕ → Form ⊤
named_form word p = words_form (word ++ decimal p)

-- a word and a number
abbrev pub count_form : List ℕ → Form ℕ
count_form word = line_form (λ n. n < 2 ^ 32) (λ n. word ++ decimal n)

abbrev pub sizes_form : Form Sizes
sizes_form = line_form AreSmallSizes (λ s. codes "design" ++ sizes_words s)

abbrev pub prop_form : ℕ → Form PropLine
prop_form p = line_form (λ l. IsSmallMark l.mark) (prop_words p)

-- so many lines of properties from p on
abbrev pub props_form : ℕ → ℕ → Form (List PropLine)
props_form count p = times prop_form (λ q _. q + 1) count p

-- a clause whose literals a reader holds
pub record IsHeldClause (vars : ℕ) (clause : List ℕ) : Type 0 where
  pub form : IsReportClause vars clause
  pub small : AllByRecursion (λ l. l < 2 ^ 32) clause

abbrev pub clause_form : ℕ → Form (List ℕ)
clause_form vars = line_form (IsHeldClause vars) clause_words

-- so many lines of clauses
abbrev pub clause_lines_form : ℕ → ℕ → Form (List (List ℕ))
clause_lines_form vars count = times {S = ⊤} (λ _. clause_form vars) (λ s _. s) count tt

-- the number of clauses, and the clauses
abbrev pub clauses_form : ℕ → Form (ℕ × List (List ℕ))
clauses_form vars = then (count_form (codes "clauses ")) (clause_lines_form vars)

abbrev pub row_form : ℕ → Form (List Bool)
row_form width = line_form (λ row. length row ≡ width) (map bit_character)

-- the words of a row, and of the end of the rows
abbrev pub next_row_words : Option (List Bool) → List ℕ
next_row_words None = codes "."
next_row_words (Some row) = map bit_character row

abbrev pub next_row_form : ℕ → Form (Option (List Bool))
next_row_form width = line_form (λ next. IfSome next (λ row. length row ≡ width)) next_row_words

-- rows up to a dot
abbrev pub rows_form : ℕ → Form (List (List Bool))
rows_form width = record {
  Fits = AllByRecursion (λ row. length row ≡ width);
  text = λ rows. flat_map row_line rows ++ codes ".\n";
}

-- one or more rows, of this width
pub record AreInputs (width : ℕ) (rows : List (List Bool)) : Type 0 where
  pub some : 0 < length rows
  pub widths : AllByRecursion (λ row. length row ≡ width) rows

-- these rows up to a dot
abbrev pub inputs_form : ℕ → Form (List (List Bool))
inputs_form width = record { Fits = AreInputs width; text = λ rows. flat_map row_line rows ++ codes ".\n" }

-- the names of a stimulus for property p
abbrev pub names_form : ℕ → Form (⊤ × (⊤ × ⊤))
names_form p = then (named_form (codes "stimulus b") p) (λ _. then (words_form (codes "1")) (λ _. named_form (codes "b") p))

-- a stimulus for property p
pub record IsStimulusOf (s : Sizes) (p : ℕ) (x : PropStim) : Type 0 where
  pub property : x.prop ≡ p
  pub widths : HasWidths s x

abbrev pub stimulus_form : Sizes → ℕ → Form PropStim
stimulus_form s p = record { Fits = IsStimulusOf s p; text = stimulus_lines }

-- one stimulus for property p where it fails, and else none
abbrev pub AreStimuliOf : Bool → Sizes → ℕ → List PropStim → Type 0
AreStimuliOf false s p xs = xs ≡ []
AreStimuliOf true s p [] = ⊥
AreStimuliOf true s p (x ∷ []) = IsStimulusOf s p x
AreStimuliOf true s p (x ∷ y ∷ xs) = ⊥

abbrev pub where_form : Bool → Sizes → ℕ → Form (List PropStim)
where_form fails s p = record { Fits = AreStimuliOf fails s p; text = flat_map stimulus_lines }

-- what was read came to what was there before, or reading stops
abbrev pub Adds : {X T : Type 0} → Form (List X) → List X → List X → (T → List ℕ) → List ℕ → Result T (OrMemory BadLine) → Type 0
Adds {X} F old new rest bytes (Ok t) = (xs : List X) × Takes F bytes xs (rest t) × (new ≡ old ++ xs)
Adds F old new rest bytes (Err e) = Fails F bytes e

-- a stimulus for each property that fails, the first of these marks being the one of p
pub record AreStimuli (s : Sizes) (p : ℕ) (marks : List Mark) (stimuli : List PropStim) : Type 0 where
  pub props : map (λ (x : PropStim). x.prop) stimuli ≡ failing_from p marks
  pub widths : AllByRecursion (HasWidths s) stimuli

abbrev pub stimuli_form : Sizes → ℕ → List Mark → Form (List PropStim)
stimuli_form s p marks = record { Fits = AreStimuli s p marks; text = flat_map stimulus_lines }

abbrev pub joined_form : Form Bool
joined_form = line_form (λ _. ⊤) joined_words

-- properties of a design with so many, in ascending order
pub record IsSet (props : ℕ) (set : List ℕ) : Type 0 where
  pub ascends : IsStrictlyIncreasing set
  pub within : AllByRecursion (λ p. p < props) set

abbrev pub set_form : ℕ → Form (List ℕ)
set_form props = line_form (IsSet props) set_words

-- the end, or how many entries of a journal follow
abbrev pub journal_words : Option ℕ → List ℕ
journal_words None = codes "end"
journal_words (Some n) = codes "journal " ++ decimal n

-- a number that a reader holds, and which is not 0 where there are clauses
pub record IsEntryCount (clauses n : ℕ) : Type 0 where
  pub small : n < 2 ^ 32
  pub some : n ≡ 0 → clauses ≡ 0

abbrev pub journal_form : ℕ → Form (Option ℕ)
journal_form clauses = line_form (λ next. IfSome next (IsEntryCount clauses)) journal_words
