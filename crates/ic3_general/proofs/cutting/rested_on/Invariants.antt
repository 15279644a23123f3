use Rattle.std.proofs.Common.{◌≡◌, take}
use Rattle.std.specs.Prelude.{filter}
use Rattle.ic3_general.specs.Shrinking.{is_rested_on}
use Rattle.ic3_general.proofs.cutting.rested_on.Given as goal

abbrev pub invariant-loop-lit : goal.invariant-loop-lit
invariant-loop-lit l = l.lits ≡ filter (is_rested_on l.coded.design l.core) (take l.lit-index l.clause)
