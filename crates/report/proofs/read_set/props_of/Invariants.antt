use Rattle.std.proofs.Common.{length, []}
use Rattle.report.proofs.NumbersLemmas.{Grows}
use Rattle.std.specs.Prelude.{codes}
use Rattle.report.proofs.read_set.props_of.Given as goal

abbrev pub invariant-loop-prop : goal.invariant-loop-prop
invariant-loop-prop l = Grows (codes " b") l.bytes [] l.props l.rest

abbrev pub decreases-loop-prop : goal.decreases-loop-prop
decreases-loop-prop l = length l.rest
