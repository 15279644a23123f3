use Rattle.std.proofs.Common.{◌≡◌, ◌++◌, take}
use Rattle.std.specs.List.{flat_map}
use Rattle.ja_project.specs.CodedClauses.{gate_clauses}
use Rattle.ja_project.proofs.clauses.add_gates.Given as goal

abbrev pub invariant-loop-at : goal.invariant-loop-at
invariant-loop-at l = l.clauses ≡ l.fn.clauses ++ flat_map gate_clauses (take l.at l.design.gates)
