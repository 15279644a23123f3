use Rattle.std.proofs.Common.{◌≡◌}
use Rattle.aiger_binary.specs.Reading.{input_literals}
use Rattle.aiger_binary.proofs.inputs.inputs.Given as goal

abbrev pub invariant-loop-input : goal.invariant-loop-input
invariant-loop-input l = l.lits ≡ input_literals l.input
