use Rattle.std.proofs.Common.{◌≡◌, []}
use Rattle.sat_plain.specs.Trails.{lits_of}
use Rattle.sat_plain.specs.Derive.{IsDerived}
use Rattle.sat_cdcl.specs.Files.{list_of, places_of}
use Rattle.sat_cdcl.proofs.analyze.first_point.Given as goal

abbrev pub invariant-loop-at : goal.invariant-loop-at
invariant-loop-at l =
    record {
      derived : IsDerived l.db.watched.trail.vars (list_of l.db) (lits_of (places_of l.db)) l.at l.derivation;
      empty : l.derivation.lits ≡ [];
      order : l.order ≡ l.initial.order;
    }
