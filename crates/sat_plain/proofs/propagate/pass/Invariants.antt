use Rattle.sat_plain.proofs.StepLemmas.{IsPassing}
use Rattle.sat_plain.proofs.propagate.pass.Given as goal

abbrev pub invariant-loop-at : goal.invariant-loop-at
invariant-loop-at l = IsPassing l.clauses.list l.initial.trail l.trail l.at
