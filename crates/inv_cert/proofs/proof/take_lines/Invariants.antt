use Rattle.inv_cert.proofs.ProofLemmas.{IsTaking}
use Rattle.inv_cert.proofs.proof.take_lines.Given as goal

abbrev pub invariant-loop-line : goal.invariant-loop-line
invariant-loop-line l = IsTaking l.fn.checker.vars l.fn.checker.list l.fn.lines.items l.at l.line-iterator.rest.items l.checker
