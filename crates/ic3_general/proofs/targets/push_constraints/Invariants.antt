use Rattle.std.proofs.Common.{◌≡◌, ◌++◌, take}
use Rattle.ic3_general.proofs.targets.push_constraints.Given as goal

abbrev pub invariant-loop-at : goal.invariant-loop-at
invariant-loop-at l = l.lits ≡ l.fn.lits ++ take l.at l.design.constraints
