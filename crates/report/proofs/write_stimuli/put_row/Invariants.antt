use Rattle.std.proofs.Common.{◌≡◌, ◌++◌, take, map}
use Rattle.local_stim.specs.StimulusText.{bit_character}
use Rattle.report.proofs.write_stimuli.put_row.Given as goal

abbrev pub invariant-loop-bit : goal.invariant-loop-bit
invariant-loop-bit l = l.text ≡ l.fn.text ++ map bit_character (take l.bit-index l.row)
