use Rattle.std.proofs.Common.{◌≡◌, length}
use Rattle.sign_task.proofs.tests.expectations.Given as goal

abbrev pub invariant-loop-prop : goal.invariant-loop-prop
invariant-loop-prop l = length l.expect ≡ l.props
