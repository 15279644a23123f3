use Rattle.std.proofs.Common.{map, take}
use Rattle.ja_base.specs.Literals.{variable}
use Rattle.ja_project.specs.Coding.{Marks}
use Rattle.ja_project.proofs.defined.mark_inputs.Given as goal

abbrev pub invariant-loop-at : goal.invariant-loop-at
invariant-loop-at l = Marks (map variable (take l.at l.design.inputs)) l.fn.defined l.defined
