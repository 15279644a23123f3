use Rattle.sat_plain.specs.Walks.{IsWalking}
use Rattle.sat_plain.proofs.analyze.derive.Given as goal

abbrev pub invariant-loop-at : goal.invariant-loop-at
invariant-loop-at l = IsWalking l.trail.vars l.clauses.list l.trail.places l.at l.walk.derivation l.walk.last
