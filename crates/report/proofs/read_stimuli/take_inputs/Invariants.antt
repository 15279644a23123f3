use Rattle.std.proofs.Common.{length}
use Rattle.report.proofs.StimulusLemmas.{HasRows}
use Rattle.report.proofs.read_stimuli.take_inputs.Given as goal

abbrev pub invariant-loop-rows : goal.invariant-loop-rows
invariant-loop-rows l = HasRows l.width l.bytes l.rows l.rest

abbrev pub decreases-loop-rows : goal.decreases-loop-rows
decreases-loop-rows l = length l.rest
