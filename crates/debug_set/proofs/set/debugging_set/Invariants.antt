use Rattle.std.specs.Prelude.{map}
use Rattle.store_core.specs.MarkKinds.{fails}
use Rattle.debug_set.proofs.SetLemmas.{IsSetBelow}
use Rattle.debug_set.proofs.set.debugging_set.Given as goal

abbrev pub invariant-loop-prop : goal.invariant-loop-prop
invariant-loop-prop l = IsSetBelow l.expect (map fails l.marks) l.prop l.set
