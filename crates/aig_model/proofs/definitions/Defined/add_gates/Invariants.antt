use Rattle.std.proofs.Common.{map, take}
use Rattle.aig_model.specs.Netlist.{gate_var}
use Rattle.aig_model.specs.Definitions.{Adds}
use Rattle.aig_model.proofs.definitions.Defined.add_gates.Given as goal

abbrev pub invariant-loop-gate : goal.invariant-loop-gate
invariant-loop-gate l = Adds l.fn.self l.self (map gate_var (take l.gate-index l.gates))
