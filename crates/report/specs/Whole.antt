-- The text of a report as one form behind another.
use Rattle.std.specs.Prelude.{◌≡◌, ℕ, ◌+◌, ◌==◌, ◌&&◌, ⊤, Bool, true, false, not, List, [], ◌++◌, length, codes, bytes_eq, Option, Some, Result, Ok, Err}
use Rattle.std.specs.List.{list_all}
use Rattle.ja_base.specs.declared.memory.OrMemory.{OrMemory}
use Rattle.ja_base.specs.declared.memory.OrMemory.TheVariants.{Refused, Memory}
use Rattle.ja_text.specs.Numbers.{is_digit}
use Rattle.ja_text.specs.Lines.{line_at, word_at}
use Rattle.store_core.specs.declared.journal.Entry.{Entry}
use Rattle.store_core.specs.declared.mark.Mark.{Mark}
use Rattle.report.specs.declared.line.BadLine.{BadLine}
use Rattle.report.specs.declared.parts.PropLine.{PropLine}
use Rattle.report.specs.declared.parts.PropStim.{PropStim}
use Rattle.report.specs.declared.parts.Sizes.{Sizes}
use Rattle.report.specs.Findings.{Findings}
use Rattle.report.specs.Reports.{IsReport, IsSmall, IsReportText, IsBadLine, line_count, journal_text, line_of, report_text}
use Rattle.report.specs.Forms.{Form, then}
use Rattle.report.specs.Sections.{words_form, sizes_form, props_form, clauses_form, stimuli_form, joined_form, set_form, IsEntryCount}
use Rattle.report.specs.Lines.{where_true}
use Rattle.report.specs.Tokens.{◌>>=◌, has_leading_zero}
use Rattle.report.specs.JournalLines.{AreEntries}

-- a journal of entries that fit these clauses, where it is shown, and else none
abbrev pub IsEnding : ℕ → List (List ℕ) → Bool → List Entry → Type 0
IsEnding props clauses true entries = IsEntryCount (length clauses) (length entries) × AreEntries props clauses (length entries)
    entries
IsEnding props clauses false entries = entries ≡ []

-- the journal, where it is shown, and the end
abbrev pub tail_form : ℕ → List (List ℕ) → Form (Bool × List Entry)
tail_form props clauses = record {
  Fits = λ p. IsEnding props clauses p.0 p.1;
  text = λ p. journal_text p.0 p.1 ++ line_of
      (codes "end");
}

-- the first line, the sizes and the lines of the properties
abbrev pub head_form : Form (⊤ × (Sizes × List PropLine))
head_form = then (words_form (codes "jasign 1")) (λ _. then sizes_form (λ s. props_form s.props 0))

-- the clauses and the stimuli
abbrev pub found_form : Sizes → List Mark → Form ((ℕ × List (List ℕ)) × List PropStim)
found_form s marks = then (clauses_form s.vars) (λ _. stimuli_form s 0 marks)

-- what is joined, the set, and the tail
abbrev pub end_form : ℕ → List (List ℕ) → Form (Bool × (List ℕ × (Bool × List Entry)))
end_form props clauses = then joined_form (λ _. then (set_form props) (λ _. tail_form props clauses))

-- a report as it is read: with no journal where none is shown
pub record IsRead (r : Findings) : Type 0 where
  pub form : IsReport r
  pub small : IsSmall r
  pub hidden : r.shown ≡ false → r.journal ≡ []

abbrev pub report_form : Form Findings
report_form = record { Fits = IsRead; text = report_text }

-- where so many bytes are left begins the first line that the text of no report has there
pub record IsBadFrom (bytes : List ℕ) (left : ℕ) : Type 0 where
  pub front : List ℕ
  pub rest : List ℕ
  pub parts : bytes ≡ front ++ rest
  pub left_is : left ≡ length rest
  pub bad : IsBadLine bytes (line_count front + 1)

-- the bytes are the text of the report, which has no journal where none is shown
pub record Spells (bytes : List ℕ) (r : Findings) : Type 0 where
  pub text : IsReportText bytes r
  pub hidden : r.shown ≡ false → r.journal ≡ []

-- why the bytes are no report, unless memory was wanting
abbrev pub FailsWhole : List ℕ → OrMemory BadLine → Type 0
FailsWhole bytes (Refused b) = IsBadFrom bytes b.left
FailsWhole bytes Memory = ⊤

-- a report was read of all the bytes, or the first line was found that leaves the form
abbrev pub ReadsWhole : List ℕ → Result Findings (OrMemory BadLine) → Type 0
ReadsWhole bytes (Ok r) = Spells bytes r
ReadsWhole bytes (Err e) = FailsWhole bytes e

-- ---- another version

-- a number other than 1, in digits without a zero in front
abbrev pub is_other : List ℕ → Bool
is_other digits = not (length digits == 0) && list_all is_digit digits && not (has_leading_zero digits) && not
    (bytes_eq digits (codes "1"))

-- the digits of another version, where the first line names one
unfoldable pub other_at : List ℕ → Option (List ℕ)
other_at bytes = do
  rest ← word_at (codes "jasign ") bytes
  line ← line_at rest
  where_true (is_other line.0) (Some line.0)
