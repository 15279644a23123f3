use Rattle.std.proofs.Common.{take}
use Rattle.ic3_general.proofs.LeafLemmas.{Clears}
use Rattle.ic3_general.proofs.sure.clear_latches.Given as goal

abbrev pub invariant-loop-at : goal.invariant-loop-at
invariant-loop-at l = Clears (take l.at l.design.latches) l.fn.sure l.sure
