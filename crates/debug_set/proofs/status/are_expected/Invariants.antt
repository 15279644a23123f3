use Rattle.std.specs.Prelude.{◌≡◌}
use Rattle.debug_set.specs.Verdicts.{are_expected}
use Rattle.debug_set.proofs.StatusLemmas.{expected_from}
use Rattle.debug_set.proofs.status.are_expected.Given as goal

abbrev pub invariant-loop-prop : goal.invariant-loop-prop
invariant-loop-prop l = are_expected l.expect l.marks ≡ expected_from l.expect l.marks l.prop
