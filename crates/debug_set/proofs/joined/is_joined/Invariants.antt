use Rattle.std.specs.Prelude.{map}
use Rattle.store_core.specs.MarkKinds.{is_proved}
use Rattle.debug_set.proofs.JoinedLemmas.{JoinedBelow}
use Rattle.debug_set.proofs.joined.is_joined.Given as goal

abbrev pub invariant-loop-prop : goal.invariant-loop-prop
invariant-loop-prop l = JoinedBelow l.expect (map is_proved l.marks) l.prop
