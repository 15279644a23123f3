use Rattle.std.proofs.Common.{length}
use Rattle.aiger_lines.specs.Tail.{PassesOver}
use Rattle.aiger_lines.proofs.tail.bad_line.Given as goal

abbrev pub invariant-loop-rest : goal.invariant-loop-rest
invariant-loop-rest l = PassesOver l.header l.bytes l.rest

abbrev pub decreases-loop-rest : goal.decreases-loop-rest
decreases-loop-rest l = length l.rest
