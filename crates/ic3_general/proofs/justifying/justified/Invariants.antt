use Rattle.ic3_general.specs.Dropping.{IsAmongUnmet}
use Rattle.ic3_general.proofs.justifying.justified.Given as goal

abbrev pub invariant-loop-at : goal.invariant-loop-at
invariant-loop-at l = IsAmongUnmet l.design l.vals l.lits
