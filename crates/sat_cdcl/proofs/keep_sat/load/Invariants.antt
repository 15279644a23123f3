use Rattle.std.proofs.Common.{◌≡◌, take}
use Rattle.refute_check.specs.Checked.{clauses_at}
use Rattle.sat_cdcl.specs.Files.{list_of}
use Rattle.sat_cdcl.proofs.keep_sat.load.Given as goal

abbrev pub invariant-loop-number : goal.invariant-loop-number
invariant-loop-number g l =
    record {
      vars : g.S.Sat.count l.solver ≡ l.db.watched.trail.vars;
      added : g.S.Sat.added l.solver ≡ clauses_at (list_of l.db) (take l.number-index l.added);
    }
