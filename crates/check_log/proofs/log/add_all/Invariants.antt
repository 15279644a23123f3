use Rattle.std.proofs.Common.{◌≡◌}
use Rattle.check_log.proofs.log.add_all.Given as goal

abbrev pub invariant-loop-line : goal.invariant-loop-line
invariant-loop-line l = l.checker.vars ≡ 1048576
