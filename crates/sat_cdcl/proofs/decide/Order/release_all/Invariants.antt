use Rattle.std.proofs.Common.{◌≡◌}
use Rattle.sat_cdcl.proofs.decide.Order.release_all.Given as goal

abbrev pub invariant-loop-at : goal.invariant-loop-at
invariant-loop-at l = l.self ≡ l.initial.self
