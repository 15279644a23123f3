use Rattle.report.specs.Forms.{Takes}
use Rattle.report.specs.Sections.{clause_lines_form}
use Rattle.report.proofs.read_clauses.take_lines.Given as goal

abbrev pub invariant-loop : goal.invariant-loop
invariant-loop l = Takes (clause_lines_form l.vars l.counter) l.bytes l.clauses l.rest
