use Rattle.std.proofs.Common.{◌≡◌}
use Rattle.sat_cdcl.proofs.tests.is_shown.Given as goal

abbrev pub invariant-loop-mask : goal.invariant-loop-mask
invariant-loop-mask l = l.checker.vars ≡ 12
