use Rattle.std.proofs.Common.{drop}
use Rattle.aig_model.specs.Netlist.{circuit}
use Rattle.ic3_general.specs.Dropping.{IsLifting}
use Rattle.ic3_general.proofs.dropping.needed_literals.Given as goal

abbrev pub invariant-loop-lit : goal.invariant-loop-lit
invariant-loop-lit l =
    IsLifting (circuit l.design) l.vals l.target l.first l.kept (drop l.lit-index l.first) l.sure
