use Rattle.std.proofs.Common.{◌≡◌}
use Rattle.jasign_run.proofs.Columns.{assumed_before}
use Rattle.jasign_run.proofs.verdicts.assumed_of.Given as goal

abbrev pub invariant-loop-prop : goal.invariant-loop-prop
invariant-loop-prop l = l.expect ≡ assumed_before l.lines l.prop
