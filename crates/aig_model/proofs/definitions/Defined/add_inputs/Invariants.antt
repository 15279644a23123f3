use Rattle.std.proofs.Common.{map, take}
use Rattle.ja_base.specs.Literals.{variable}
use Rattle.aig_model.specs.Definitions.{Adds}
use Rattle.aig_model.proofs.definitions.Defined.add_inputs.Given as goal

abbrev pub invariant-loop-input : goal.invariant-loop-input
invariant-loop-input l = Adds l.fn.self l.self (map variable (take l.input-index l.inputs))
