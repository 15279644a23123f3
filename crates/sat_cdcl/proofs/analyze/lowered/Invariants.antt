use Rattle.std.proofs.Common.{◌≡◌}
use Rattle.sat_cdcl.specs.Files.{list_of, places_of}
use Rattle.sat_cdcl.specs.Walks.{IsLowering}
use Rattle.sat_cdcl.proofs.analyze.lowered.Given as goal

abbrev pub invariant-loop-at : goal.invariant-loop-at
invariant-loop-at l =
    record {
      lowering : IsLowering l.db.watched.trail.vars (list_of l.db) (places_of l.db) l.point.lit l.at l.walk;
      order : l.order ≡ l.initial.order;
    }
