use Rattle.sign_task.proofs.PlaceLemmas.{AreTaken}
use Rattle.sign_task.proofs.stimuli.stimuli_of.Given as goal

abbrev pub invariant-loop-prop : goal.invariant-loop-prop
invariant-loop-prop l = AreTaken l.failures l.marks l.prop l.stimuli
