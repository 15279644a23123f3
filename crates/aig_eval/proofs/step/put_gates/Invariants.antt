use Rattle.aig_eval.specs.Rows.{PutsGates}
use Rattle.aig_eval.proofs.step.put_gates.Given as goal

abbrev pub invariant-loop-at : goal.invariant-loop-at
invariant-loop-at l = PutsGates l.d.gates l.at l.fn.vals l.vals
