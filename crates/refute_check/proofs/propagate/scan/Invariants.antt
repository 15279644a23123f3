use Rattle.std.proofs.Common.{◌≡◌, drop}
use Rattle.ja_base.specs.Trails.{open_lits}
use Rattle.refute_check.specs.Lines.{found_of}
use Rattle.refute_check.proofs.propagate.scan.Given as goal

abbrev pub invariant-loop-at : goal.invariant-loop-at
invariant-loop-at l = found_of l.values (open_lits l.values l.lits) ≡ found_of l.values (open_lits l.values (drop l.at l.lits))
