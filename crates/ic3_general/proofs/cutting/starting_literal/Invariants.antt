use Rattle.std.proofs.Common.{◌≡◌, false, take}
use Rattle.aig_model.specs.Netlist.{circuit}
use Rattle.ja_project.specs.Start.{starts}
use Rattle.ic3_general.proofs.cutting.starting_literal.Given as goal

abbrev pub invariant-loop-lit : goal.invariant-loop-lit
invariant-loop-lit l = starts (circuit l.table) (take l.lit-index l.clause) ≡ false
