use Rattle.sign_task.proofs.ClauseLemmas.{AreCopied}
use Rattle.sign_task.proofs.reporting.clauses_of.Given as goal

abbrev pub invariant-loop-at : goal.invariant-loop-at
invariant-loop-at l = AreCopied l.list.clauses l.at l.clauses
