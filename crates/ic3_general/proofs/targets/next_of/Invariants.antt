use Rattle.std.proofs.Common.{◌≡◌, drop}
use Rattle.ja_project.specs.CodedClauses.{next_literal}
use Rattle.ic3_general.proofs.targets.next_of.Given as goal

abbrev pub invariant-loop-at : goal.invariant-loop-at
invariant-loop-at l = next_literal l.design.latches l.lit ≡ next_literal (drop l.at l.design.latches) l.lit
