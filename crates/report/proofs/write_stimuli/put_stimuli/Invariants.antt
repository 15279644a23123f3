use Rattle.std.proofs.Common.{◌≡◌, ◌++◌, take}
use Rattle.std.specs.List.{flat_map}
use Rattle.report.specs.Reports.{stimulus_lines}
use Rattle.report.proofs.write_stimuli.put_stimuli.Given as goal

abbrev pub invariant-loop-of : goal.invariant-loop-of
invariant-loop-of l = l.text ≡ l.fn.text ++ flat_map stimulus_lines (take l.of-index l.stimuli)
