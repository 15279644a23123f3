use Rattle.std.proofs.Common.{take}
use Rattle.ic3_frames.specs.Marks.{IsMark}
use Rattle.ic3_frames.proofs.mark.mark_of.Given as goal

abbrev pub invariant-loop-lit : goal.invariant-loop-lit
invariant-loop-lit l = IsMark (take l.lit-index l.lits) l.mark
