use Rattle.std.specs.Prelude.{◌≡◌, length}
use Rattle.job_plan.proofs.tests.expect_of.Given as goal

abbrev pub invariant-loop-prop : goal.invariant-loop-prop
invariant-loop-prop l = length l.expect ≡ l.props
