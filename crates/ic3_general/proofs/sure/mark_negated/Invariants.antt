use Rattle.std.proofs.Common.{take}
use Rattle.ic3_general.proofs.LeafLemmas.{MarksNegated}
use Rattle.ic3_general.proofs.sure.mark_negated.Given as goal

abbrev pub invariant-loop-lit : goal.invariant-loop-lit
invariant-loop-lit l = MarksNegated (take l.lit-index l.lits) l.fn.sure l.sure
