use Rattle.std.proofs.Common.{◌≡◌, map, take}
use Rattle.ic3_general.specs.Cubes.{unmet_literal}
use Rattle.ic3_general.proofs.rows.unmet_literals.Given as goal

abbrev pub invariant-loop-at : goal.invariant-loop-at
invariant-loop-at l = l.lits ≡ map (unmet_literal l.vals) (take l.at l.design.latches)
