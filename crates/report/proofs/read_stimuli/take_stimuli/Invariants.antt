use Rattle.report.specs.Findings.{marks_of}
use Rattle.report.proofs.StimulusLemmas.{HasStimuli}
use Rattle.report.proofs.read_stimuli.take_stimuli.Given as goal

abbrev pub invariant-loop-prop : goal.invariant-loop-prop
invariant-loop-prop l = HasStimuli l.sizes (marks_of l.lines) l.bytes l.prop l.stimuli l.rest
