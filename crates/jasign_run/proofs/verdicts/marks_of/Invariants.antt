use Rattle.std.proofs.Common.{◌≡◌, take}
use Rattle.report.specs.Findings.{marks_of}
use Rattle.jasign_run.proofs.verdicts.marks_of.Given as goal

abbrev pub invariant-loop-line : goal.invariant-loop-line
invariant-loop-line l = l.marks.items ≡ marks_of (take l.line-index l.lines)
