use Rattle.std.proofs.Common.{length}
use Rattle.ja_text.specs.Repeated.{Chain}
use Rattle.refute_text.specs.RefutationText.{TakesLine}
use Rattle.refute_text.proofs.read.read_lines.Given as goal

abbrev pub invariant-loop-rest : goal.invariant-loop-rest
invariant-loop-rest l = Chain TakesLine l.bytes l.lines l.rest

abbrev pub decreases-loop-rest : goal.decreases-loop-rest
decreases-loop-rest l = length l.rest
