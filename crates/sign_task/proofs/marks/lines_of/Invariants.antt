use Rattle.std.proofs.Common.{◌≡◌, take}
use Rattle.report.specs.Findings.{marks_of}
use Rattle.sign_task.specs.Sections.{assumed_of}
use Rattle.sign_task.proofs.marks.lines_of.Given as goal

abbrev pub invariant-loop-prop : goal.invariant-loop-prop
invariant-loop-prop l = (assumed_of l.lines ≡ take l.prop l.expect) × (marks_of l.lines ≡ take l.prop l.marks)
