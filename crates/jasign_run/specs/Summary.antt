-- The summary that a demonstration writes: a function of its report.
use Rattle.std.specs.Prelude.{ℕ, List, [], ◌∷◌, ◌++◌, length, codes, decimal, count_by}
use Rattle.store_core.specs.MarkKinds.{fails, is_proved, is_unknown}
use Rattle.report.specs.declared.parts.PropLine.{PropLine}
use Rattle.report.specs.declared.parts.PropStim.{PropStim}
use Rattle.report.specs.Findings.{Findings}
use Rattle.report.specs.Reports.{line_of, set_words}

-- a line of a word and a number
abbrev pub count_line : List ℕ → ℕ → List ℕ
count_line word n = word ++ decimal n ++ 10 ∷ []

-- how many properties were proved
abbrev pub proved_count : List PropLine → ℕ
proved_count lines = count_by (λ (l : PropLine). is_proved l.mark) lines

-- how many were found to fail
abbrev pub fail_count : List PropLine → ℕ
fail_count lines = count_by (λ (l : PropLine). fails l.mark) lines

-- how many were left unknown
abbrev pub unknown_count : List PropLine → ℕ
unknown_count lines = count_by (λ (l : PropLine). is_unknown l.mark) lines

-- the input rows of the first stimulus, and 0 where there is none
abbrev pub first_steps : List PropStim → ℕ
first_steps [] = 0
first_steps (x ∷ xs) = length x.stim.inputs

-- the ring's size, the counts of properties and of each kind of mark, the debugging set, and the steps of the first stimulus
abbrev pub summary_text : ℕ → Findings → List ℕ
summary_text size r = count_line (codes "demo ") size
    ++ count_line (codes "properties ") (length r.lines)
    ++ count_line (codes "proved ") (proved_count r.lines)
    ++ count_line (codes "fails ") (fail_count r.lines)
    ++ count_line (codes "unknown ") (unknown_count r.lines)
    ++ line_of (set_words r.set)
    ++ count_line (codes "steps ") (first_steps r.stimuli)
