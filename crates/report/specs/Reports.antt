-- Which reports there are, whose texts they have, and where bytes leave the form.
use Rattle.std.specs.Prelude.{◌≡◌, ◌≢◌, ℕ, ◌+◌, ◌*◌, ◌<◌, ◌≤◌, ◌^◌, ◌==◌, ◌⊎◌, ⊤, Bool, true, false, List, [], ◌∷◌, ◌++◌, length, map, filter, flat_map, codes, decimal}
use Rattle.std.specs.List.{AllByRecursion}
use Rattle.std.specs.List.Sorted.{IsStrictlyIncreasing}
use Rattle.ja_text.specs.Numbers.{IsDigit, HasNoLeadingZero}
use Rattle.ja_text.specs.Lines.{IsOneLine}
use Rattle.local_stim.specs.StimulusText.{stimulus_text}
use Rattle.store_core.specs.declared.journal.Entry.{Entry}
use Rattle.report.specs.declared.parts.Sizes.{Sizes}
use Rattle.report.specs.declared.parts.PropLine.{PropLine}
use Rattle.report.specs.declared.parts.PropStim.{PropStim}
use Rattle.report.specs.declared.refusal.ReportRefusal.{ReportRefusal}
use Rattle.report.specs.declared.refusal.ReportRefusal.TheVariants.{Version, Line}
use Rattle.report.specs.Findings.{Findings, marks_of, failing_from}
use Rattle.report.specs.Entries.{AreAnswered, IsSmallMark, IsSmallEntry, added_by, property_word, mark_words, entry_words}

-- ---- the value

-- the literals ascend, and are those of the variables 1 to vars
pub record IsReportClause (vars : ℕ) (clause : List ℕ) : Type 0 where
  pub ascends : IsStrictlyIncreasing clause
  pub within : AllByRecursion (λ l. (2 ≤ l) × (l ≤ 2 * vars + 1)) clause

-- the rows have the widths of the design, and there is one for a first step
pub record HasWidths (s : Sizes) (x : PropStim) : Type 0 where
  pub first : length x.stim.first ≡ s.latches
  pub rows : AllByRecursion (λ row. length row ≡ s.inputs) x.stim.inputs
  pub some : 0 < length x.stim.inputs

-- Each entry is answered, and what the entries appended, one behind the other, are the clauses.
pub record IsShownJournal (r : Findings) : Type 0 where
  pub answered : AreAnswered r.sizes.props 0 r.journal
  pub appended : flat_map (λ (e : Entry). added_by e.event) r.journal ≡ r.clauses

-- the fact holds where the journal is shown
abbrev pub IfShown : Bool → Type 0 → Type 0
IfShown true P = P
IfShown false P = ⊤

-- A line for each property, a stimulus for each one that fails, and a set of properties. Whether `joined` and `set` are right for
-- the marks is no part of this.
pub record IsReport (r : Findings) : Type 0 where
  pub lines : length r.lines ≡ r.sizes.props
  pub clauses : AllByRecursion (IsReportClause r.sizes.vars) r.clauses
  pub stimuli : map (λ (x : PropStim). x.prop) r.stimuli ≡ failing_from 0 (marks_of r.lines)
  pub widths : AllByRecursion (HasWidths r.sizes) r.stimuli
  pub set_ascends : IsStrictlyIncreasing r.set
  pub set_within : AllByRecursion (λ p. p < r.sizes.props) r.set
  pub journal : IfShown r.shown (IsShownJournal r)

-- ---- its text

-- the words and LF
abbrev pub line_of : List ℕ → List ℕ
line_of words = words ++ 10 ∷ []

-- a number behind a space
abbrev pub spaced : ℕ → List ℕ
spaced n = 32 ∷ decimal n

-- the sizes in the order of the header
abbrev pub sizes_words : Sizes → List ℕ
sizes_words s =
    spaced s.vars ++ spaced s.inputs ++ spaced s.latches ++ spaced s.gates ++ spaced s.props ++ spaced s.constraints

abbrev pub expectation_word : Bool → List ℕ
expectation_word true = codes "hold"
expectation_word false = codes "fail"

-- the line of property p
abbrev pub prop_words : ℕ → PropLine → List ℕ
prop_words p l = property_word p ++ 32 ∷ expectation_word l.assumed ++ 32 ∷ mark_words l.mark

-- the lines of the properties from p on
abbrev pub prop_lines : ℕ → List PropLine → List ℕ
prop_lines p [] = []
prop_lines p (l ∷ ls) = line_of (prop_words p l) ++ prop_lines (p + 1) ls

-- the literals, one space between two
abbrev pub clause_words : List ℕ → List ℕ
clause_words [] = []
clause_words (l ∷ ls) = decimal l ++ flat_map spaced ls

-- a line that names the property, and the stimulus as replays read it
abbrev pub stimulus_lines : PropStim → List ℕ
stimulus_lines x = line_of (codes "stimulus " ++ property_word x.prop) ++ stimulus_text x.prop x.stim

abbrev pub joined_words : Bool → List ℕ
joined_words true = codes "joined yes"
joined_words false = codes "joined no"

-- a property behind a space
abbrev pub member_words : ℕ → List ℕ
member_words p = 32 ∷ property_word p

abbrev pub set_words : List ℕ → List ℕ
set_words set = codes "set" ++ flat_map member_words set

-- the lines of these entries, where n clauses stood before the first
abbrev pub entry_lines : ℕ → List Entry → List ℕ
entry_lines n [] = []
entry_lines n (e ∷ es) = line_of (entry_words e (n + length (added_by e.event))) ++ entry_lines (n + length (added_by e.event)) es

-- the journal, where it is shown
abbrev pub journal_text : Bool → List Entry → List ℕ
journal_text true journal = line_of (codes "journal " ++ decimal (length journal)) ++ entry_lines 0 journal
journal_text false journal = []

-- the sizes, a line for each property, the clauses, the stimuli, whether all are joined, the set, and the journal
abbrev pub report_text : Findings → List ℕ
report_text r =
    line_of (codes "jasign 1") ++ line_of (codes "design" ++ sizes_words r.sizes) ++ prop_lines 0 r.lines
    ++ line_of (codes "clauses " ++ decimal (length r.clauses)) ++ flat_map (λ c. line_of (clause_words c)) r.clauses
    ++ flat_map stimulus_lines r.stimuli ++ line_of (joined_words r.joined) ++ line_of (set_words r.set)
    ++ journal_text r.shown r.journal ++ line_of (codes "end")

-- ---- the numbers that readers hold

pub record AreSmallSizes (s : Sizes) : Type 0 where
  pub vars : s.vars < 2 ^ 32
  pub inputs : s.inputs < 2 ^ 32
  pub latches : s.latches < 2 ^ 32
  pub gates : s.gates < 2 ^ 32
  pub props : s.props < 2 ^ 32
  pub constraints : s.constraints < 2 ^ 32

-- each number of the text is below 2^32, and a budget below 2^64
pub record IsSmall (r : Findings) : Type 0 where
  pub sizes : AreSmallSizes r.sizes
  pub marks : AllByRecursion (λ (l : PropLine). IsSmallMark l.mark) r.lines
  pub count : length r.clauses < 2 ^ 32
  pub literals : AllByRecursion (AllByRecursion (λ l. l < 2 ^ 32)) r.clauses
  pub journal : IfShown r.shown ((length r.journal < 2 ^ 32) × AllByRecursion IsSmallEntry r.journal)

-- the bytes are the text of this report
pub record IsReportText (bytes : List ℕ) (r : Findings) : Type 0 where
  pub form : IsReport r
  pub small : IsSmall r
  pub text : bytes ≡ report_text r

-- ---- what is refused

-- the first line names a version other than 1, in digits without a zero in front
pub record IsOtherVersion (bytes : List ℕ) : Type 0 where
  pub digits : List ℕ
  pub rest : List ℕ
  pub parts : bytes ≡ codes "jasign " ++ digits ++ 10 ∷ rest
  pub some : 0 < length digits
  pub are_digits : AllByRecursion IsDigit digits
  pub leading : HasNoLeadingZero digits
  pub other : digits ≢ codes "1"

-- nothing, or bytes that end with LF
abbrev pub AreLines : List ℕ → Type 0
AreLines front = (front ≡ []) ⊎ ((lines : List ℕ) × (front ≡ lines ++ 10 ∷ []))

-- how many LF there are
abbrev pub line_count : List ℕ → ℕ
line_count front = length (filter (λ b. b == 10) front)

-- these bytes begin the text of a report
pub record BeginsReport (front : List ℕ) : Type 0 where
  pub report : Findings
  pub rest : List ℕ
  pub text : IsReportText (front ++ rest) report

-- The lines before this one begin the text of a report. With this line they do not, if it has an LF; and the bytes are the text
-- of
-- no report.
pub record IsBadLine (bytes : List ℕ) (line : ℕ) : Type 0 where
  pub front : List ℕ
  pub rest : List ℕ
  pub parts : bytes ≡ front ++ rest
  pub lines : AreLines front
  pub number : line ≡ line_count front + 1
  pub begins : BeginsReport front
  pub no_more : (text after : List ℕ) → IsOneLine text → rest ≡ text ++ 10 ∷ after → BeginsReport (front ++ text ++ 10 ∷ []) → ⊥
  pub none : (r : Findings) → IsReportText bytes r → ⊥

-- the first rule that the bytes break
abbrev pub IsFirstRefusal : List ℕ → ReportRefusal → Type 0
IsFirstRefusal bytes Version = IsOtherVersion bytes
IsFirstRefusal bytes (Line line) = IsBadLine bytes line × (IsOtherVersion bytes → ⊥)
