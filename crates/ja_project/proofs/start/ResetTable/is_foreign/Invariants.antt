use Rattle.std.proofs.Common.{◌≡◌, drop}
use Rattle.ja_base.proofs.ClauseLemmas.{Ascends}
use Rattle.ja_project.specs.Latches.{is_foreign}
use Rattle.aig_model.specs.Netlist.{circuit}
use Rattle.ja_project.proofs.start.ResetTable.is_foreign.Given as goal

abbrev pub invariant-loop-at : goal.invariant-loop-at
invariant-loop-at l = Ascends (drop l.at l.lits) ×
    (is_foreign (circuit l.self) l.lits ≡ is_foreign (circuit l.self) (drop l.at l.lits))
