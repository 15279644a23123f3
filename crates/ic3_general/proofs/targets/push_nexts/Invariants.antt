use Rattle.std.proofs.Common.{◌≡◌, ◌++◌, take}
use Rattle.ja_project.specs.CodedClauses.{negated_next}
use Rattle.ic3_general.proofs.targets.push_nexts.Given as goal

abbrev pub invariant-loop-lit : goal.invariant-loop-lit
invariant-loop-lit l = l.lits ≡ l.fn.lits ++ negated_next l.design (take l.lit-index l.clause)
