use Rattle.std.proofs.Common.{◌≡◌, length}
use Rattle.check_closed.proofs.tests.expect_failures.Given as goal

abbrev pub invariant-loop-prop : goal.invariant-loop-prop
invariant-loop-prop l = length l.expect ≡ length l.fn.expect
