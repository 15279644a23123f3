use Rattle.std.proofs.Common.{length}
use Rattle.report.proofs.NumbersLemmas.{Grows}
use Rattle.std.specs.Prelude.{codes}
use Rattle.report.proofs.read_clauses.fill.Given as goal

abbrev pub invariant-loop-number : goal.invariant-loop-number
invariant-loop-number l = Grows (codes " ") l.bytes l.fn.lits.items l.lits.items l.rest

abbrev pub decreases-loop-number : goal.decreases-loop-number
decreases-loop-number l = length l.rest
