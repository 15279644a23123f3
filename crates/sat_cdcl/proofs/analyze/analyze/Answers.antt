use Rattle.std.proofs.Common.{ℕ, List, Option, None, subst}
use Rattle.sat_plain.specs.declared.place.Place.{Place}
use Rattle.sat_plain.specs.Trails.{lits_of}
use Rattle.sat_plain.proofs.WalkLemmas.{last_set}
use Rattle.sat_cdcl.specs.Files.{list_of, places_of}
use Rattle.sat_cdcl.specs.declared.analyze.Point.{Point}
use Rattle.sat_cdcl.specs.Walks.{IsPointedAt}
use Rattle.sat_cdcl.proofs.analyze.analyze.Goals as goal

pub returns-in_ok-line-in-None-clause-accepted : goal.returns-in_ok-line-in-None-clause-accepted
returns-in_ok-line-in-None-clause-accepted c =
    let vars : ℕ = c.args.db.now.watched.trail.vars in
    let places : List Place = places_of c.args.db.now in
    let P : Option Point → Type 0 = IsPointedAt vars (list_of c.args.db.now) places 0 c.first_point.new.derivation in
    let end : P None = subst P c.in-None.is c.in_ok-point.ensures.point in
    c.in_ok-line-in-None.ensures.accepted vars (list_of c.args.db.now) (lits_of places) c.in_ok-point.ensures.walked end.0

pub returns-in_ok-line-in-None-clause-learnt : goal.returns-in_ok-line-in-None-clause-learnt
returns-in_ok-line-in-None-clause-learnt c =
    let vars : ℕ = c.args.db.now.watched.trail.vars in
    let places : List Place = places_of c.args.db.now in
    let P : Option Point → Type 0 = IsPointedAt vars (list_of c.args.db.now) places 0 c.first_point.new.derivation in
    let end : P None = subst P c.in-None.is c.in_ok-point.ensures.point in
    last_set places 0 c.first_point.new.derivation.lits c.in_ok-line-in-None.line.clause None c.in_ok-line-in-None.ensures.clause
    end.1
