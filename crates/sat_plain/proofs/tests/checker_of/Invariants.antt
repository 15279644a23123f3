use Rattle.std.proofs.Common.{◌≡◌}
use Rattle.sat_plain.proofs.tests.checker_of.Given as goal

abbrev pub invariant-loop-mask : goal.invariant-loop-mask
invariant-loop-mask l = l.checker.vars ≡ 3
