use Rattle.ic3_general.specs.Dropping.{PutsSure}
use Rattle.ic3_general.proofs.sure.put_gates.Given as goal

abbrev pub invariant-loop-at : goal.invariant-loop-at
invariant-loop-at l = PutsSure l.design.gates l.at l.fn.sure l.sure
