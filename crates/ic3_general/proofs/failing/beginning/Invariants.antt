use Rattle.std.proofs.Common.{◌≡◌, take}
use Rattle.ic3_general.proofs.failing.beginning.Given as goal

abbrev pub invariant-loop-at : goal.invariant-loop-at
invariant-loop-at l = l.front ≡ take l.at l.rows
