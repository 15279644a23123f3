-- The text that each outcome writes, its status, and the report that it gives.
use Rattle.std.specs.Prelude.{ℕ, Option, Some, None, List, [], ◌∷◌, ◌++◌, codes, decimal}
use Rattle.aiger_lines.specs.declared.refusal.Large.{Large}
use Rattle.aiger_lines.specs.declared.refusal.Large.TheVariants.{File, Vars, Props, Lines}
use Rattle.aiger_lines.specs.declared.refusal.ReadRefusal.{ReadRefusal}
use Rattle.aiger_lines.specs.declared.refusal.ReadRefusal.TheVariants as design
use Rattle.expect_file.specs.declared.refusal.ExpectRefusal.{ExpectRefusal}
use Rattle.expect_file.specs.declared.refusal.ExpectRefusal.TheVariants as expect
use Rattle.local_stim.specs.declared.refusal.StimRefusal.{StimRefusal}
use Rattle.local_stim.specs.declared.refusal.StimRefusal.TheVariants as stimulus
use Rattle.local_stim.specs.declared.verdict.Confirm.{Confirm}
use Rattle.local_stim.specs.declared.verdict.Confirm.TheVariants.{Local, NotInitial, Constraint, NotBad, Assumed}
use Rattle.debug_set.specs.Verdicts.{status_of}
use Rattle.report.specs.Findings.{Findings, marks_of}
use Rattle.report.specs.Reports.{report_text}
use Rattle.sign_task.specs.Sections.{assumed_of}
use Rattle.jasign_run.specs.declared.outcome.Outcome.{Outcome}
use Rattle.jasign_run.specs.declared.outcome.Outcome.TheVariants.{Replayed, Signed, Demonstrated, Stopped}
use Rattle.jasign_run.specs.declared.outcome.Stop.{Stop}
use Rattle.jasign_run.specs.Summary.{summary_text}
use Rattle.jasign_run.specs.declared.outcome.Stop.TheVariants.{DesignRefused, StimulusRefused, ExpectRefused, Usage, Outside, Memory}

-- words, and a number behind them or none
abbrev pub Phrase : Type 0
Phrase = List ℕ × Option ℕ

-- a number in digits, if there is one
abbrev pub number_text : Option ℕ → List ℕ
number_text None = []
number_text (Some n) = decimal n

-- the words, and the number behind them
abbrev pub phrase_text : Phrase → List ℕ
phrase_text phrase = phrase.0 ++ number_text phrase.1

-- what a replay says first; the property and the number of steps are those of the stimulus
abbrev pub verdict_head : Confirm → ℕ → Phrase
verdict_head Local prop = (codes "confirmed b", Some prop)
verdict_head (NotInitial latch) prop = (codes "not confirmed: start latch ", Some latch)
verdict_head (Constraint step) prop = (codes "not confirmed: constraint at step ", Some step)
verdict_head NotBad prop = (codes "not confirmed: not bad", None)
verdict_head (Assumed step broken) prop = (codes "not confirmed: b", Some broken)

-- what it says then
abbrev pub verdict_rest : Confirm → ℕ → Phrase
verdict_rest Local steps = (codes " steps ", Some steps)
verdict_rest (NotInitial latch) steps = ([], None)
verdict_rest (Constraint step) steps = ([], None)
verdict_rest NotBad steps = ([], None)
verdict_rest (Assumed step broken) steps = (codes " broke at step ", Some step)

-- what it is that is too large
abbrev pub large_words : Large → List ℕ
large_words File = codes "2 too large file"
large_words Vars = codes "2 too large vars"
large_words Props = codes "2 too large props"
large_words Lines = codes "2 too large lines"

-- the number and the words of a refused design
abbrev pub design_phrase : ReadRefusal → Phrase
design_phrase (design.Header at) = (codes "1 header at ", Some at)
design_phrase (design.TooLarge what) = (large_words what, None)
design_phrase design.Liveness = (codes "3 liveness", None)
design_phrase (design.Line at) = (codes "4 line at ", Some at)
design_phrase (design.Range at) = (codes "5 range at ", Some at)
design_phrase (design.Twice at) = (codes "6 twice at ", Some at)
design_phrase (design.Undefined var) = (codes "7 undefined var ", Some var)
design_phrase (design.Cycle var) = (codes "8 cycle var ", Some var)
design_phrase (design.Symbol at) = (codes "9 symbol at ", Some at)
design_phrase (design.Short at) = (codes "10 short at ", Some at)
design_phrase (design.Order at) = (codes "11 order at ", Some at)

-- the number and the words of a refused stimulus
abbrev pub stimulus_phrase : StimRefusal → Phrase
stimulus_phrase (stimulus.Line line) = (codes "1 line line ", Some line)
stimulus_phrase (stimulus.Unknown line) = (codes "2 unknown line ", Some line)
stimulus_phrase (stimulus.Width line) = (codes "3 width line ", Some line)
stimulus_phrase (stimulus.Short line) = (codes "4 short line ", Some line)
stimulus_phrase stimulus.TooLarge = (codes "5 too large", None)

-- the number and the words of refused expectations
abbrev pub expect_phrase : ExpectRefusal → Phrase
expect_phrase (expect.Line line) = (codes "1 line line ", Some line)
expect_phrase (expect.Unknown line) = (codes "2 unknown line ", Some line)
expect_phrase (expect.Twice line) = (codes "3 twice line ", Some line)
expect_phrase expect.TooLarge = (codes "4 too large", None)

-- why there is no result, in words
abbrev pub stop_head : Stop → Phrase
stop_head (DesignRefused refusal) = (codes "fault: design ", None)
stop_head (StimulusRefused refusal) = (codes "fault: stimulus ", None)
stop_head (ExpectRefused refusal) = (codes "fault: expect ", None)
stop_head Usage = (codes "fault: usage", None)
stop_head Outside = (codes "fault: outside", None)
stop_head Memory = (codes "fault: memory", None)

-- which rule a file breaks, if it was refused
abbrev pub stop_rest : Stop → Phrase
stop_rest (DesignRefused refusal) = design_phrase refusal
stop_rest (StimulusRefused refusal) = stimulus_phrase refusal
stop_rest (ExpectRefused refusal) = expect_phrase refusal
stop_rest Usage = ([], None)
stop_rest Outside = ([], None)
stop_rest Memory = ([], None)

-- a line of two phrases, with its LF
abbrev pub line_text : Phrase → Phrase → List ℕ
line_text head rest = phrase_text head ++ phrase_text rest ++ 10 ∷ []

-- what the outcome writes: a line, the text of a report, or its summary
abbrev pub outcome_text : Outcome → List ℕ
outcome_text (Replayed verdict prop steps) =
    line_text (verdict_head verdict prop) (verdict_rest verdict steps)
outcome_text (Signed report) = report_text report
outcome_text (Demonstrated size report) = summary_text size report
outcome_text (Stopped stop) = line_text (stop_head stop) (stop_rest stop)

-- 0 where a stimulus is a local failure, and 1 where it is not
abbrev pub verdict_status : Confirm → ℕ
verdict_status Local = 0
verdict_status (NotInitial latch) = 1
verdict_status (Constraint step) = 1
verdict_status NotBad = 1
verdict_status (Assumed step prop) = 1

-- the status of a run without a result
abbrev pub stop_status : Stop → ℕ
stop_status (DesignRefused refusal) = 3
stop_status (StimulusRefused refusal) = 3
stop_status (ExpectRefused refusal) = 3
stop_status Usage = 4
stop_status Outside = 5
stop_status Memory = 6

-- the status of a report: that of its marks against what its lines expected
abbrev pub report_status : Findings → ℕ
report_status report = status_of (assumed_of report.lines) (marks_of report.lines)

-- the outcome's status
abbrev pub outcome_status : Outcome → ℕ
outcome_status (Replayed verdict prop steps) = verdict_status verdict
outcome_status (Signed report) = report_status report
outcome_status (Demonstrated size report) = report_status report
outcome_status (Stopped stop) = stop_status stop

-- the report that is handed back with the outcome: that of a sign-off or of a demonstration
abbrev pub outcome_report : Outcome → Option Findings
outcome_report (Replayed verdict prop steps) = None
outcome_report (Signed report) = Some report
outcome_report (Demonstrated size report) = Some report
outcome_report (Stopped stop) = None
