use Rattle.std.proofs.Common.{map, take}
use Rattle.aig_model.specs.Netlist.{gate_var}
use Rattle.ja_project.specs.Coding.{Marks}
use Rattle.ja_project.proofs.defined.mark_gates.Given as goal

abbrev pub invariant-loop-at : goal.invariant-loop-at
invariant-loop-at l = Marks (map gate_var (take l.at l.design.gates)) l.fn.defined l.defined
