use Rattle.std.proofs.Common.{◌≡◌, drop}
use Rattle.ja_project.specs.Start.{starts}
use Rattle.aig_model.specs.Netlist.{circuit}
use Rattle.ja_project.proofs.start.ResetTable.starts.Given as goal

abbrev pub invariant-loop-lit : goal.invariant-loop-lit
invariant-loop-lit l = starts (circuit l.self) l.clause ≡ starts (circuit l.self) (drop l.lit-index l.clause)
