use Rattle.std.proofs.Common.{ℕ, List, length, true, refl}
use Rattle.std.proofs.lemmas.Bool.{OnTrue_at}
use Rattle.sat_plain.specs.declared.place.Place.{Place}
use Rattle.sat_plain.specs.Trails.{lits_of}
use Rattle.sat_plain.proofs.PlaceLemmas.{lits_at}
use Rattle.sat_cdcl.specs.declared.analyze.Walk.{Walk}
use Rattle.sat_cdcl.specs.Files.{list_of, places_of}
use Rattle.sat_cdcl.proofs.PointLemmas.{none_from, within_marks, goes_on}
use Rattle.sat_cdcl.proofs.LowerLemmas.{lowering_same, lowering_back, lowering_kept}
use Rattle.sat_cdcl.proofs.analyze.Walk.lower.Goals as goal

pub skips-requires : goal.skips-requires
skips-requires c =
    let w =
    within_marks c.args.db.now.watched.trail.vars (length c.args.self.now.derivation.marks) c.args.db.now.watched.trail.values
    (places_of c.args.db.now) c.args.at c.place-place.result c.place-place.ensures.is c.place-place.ensures.value
    c.requires.width in
    w.0

pub returns-then-not-self-clause-lower : goal.returns-then-not-self-clause-lower
returns-then-not-self-clause-lower c = λ l h.
    let vars : ℕ = c.args.db.now.watched.trail.vars in
    let list : List (List ℕ) = list_of c.args.db.now in
    let places : List Place = places_of c.args.db.now in
    let place : Place = c.place-place.result in
    let old : Walk = c.args.self.now in
    let next : Walk = record { derivation = old.derivation; back = c.args.at; closed = old.closed } in
    lowering_back vars list places l c.args.at old next refl c.if-not-self.true refl
    (record {
      place = place;
      is = c.place-place.ensures.value;
      decided = none_from place.reason c.is_none.result c.is_none.ensures c.if-is_none.true;
    })
    (OnTrue_at c.if-skips.true c.skips.ensures.skips vars list (lits_of places) c.args.at
    (lits_at places c.args.at place c.place-place.ensures.value) h.derived)
    h

pub returns-else-is_none-clause-lower : goal.returns-else-is_none-clause-lower
returns-else-is_none-clause-lower c = λ l h.
    let vars : ℕ = c.args.db.now.watched.trail.vars in
    let list : List (List ℕ) = list_of c.args.db.now in
    let places : List Place = places_of c.args.db.now in
    lowering_same vars list places l c.args.at c.args.self.now c.args.self.now refl refl refl
    (OnTrue_at c.if-skips.true c.skips.ensures.skips vars list (lits_of places) c.args.at
    (lits_at places c.args.at c.place-place.result c.place-place.ensures.value) h.derived)
    h

pub returns-in_ok-resolve-in-Some-clause-lower : goal.returns-in_ok-resolve-in-Some-clause-lower
returns-in_ok-resolve-in-Some-clause-lower c = λ l h.
    let vars : ℕ = c.args.db.now.watched.trail.vars in
    let list : List (List ℕ) = list_of c.args.db.now in
    let places : List Place = places_of c.args.db.now in
    let old : Walk = c.args.self.now in
    let next : Walk = record { derivation = c.resolve.new.derivation; back = old.back; closed = old.closed } in
    lowering_same vars list places l c.args.at old next refl refl c.in_ok-resolve-in-Some.ensures.lits
    (goes_on vars c.args.db.now.watched.trail.values list places c.args.at old.derivation c.resolve.new.derivation
    c.place-place.ensures.is c.in_ok-resolve-in-Some.ensures.goes h.derived)
    h

pub returns-in_ok-keep-in-None-clause-lower : goal.returns-in_ok-keep-in-None-clause-lower
returns-in_ok-keep-in-None-clause-lower c = λ l h.
    let vars : ℕ = c.args.db.now.watched.trail.vars in
    let list : List (List ℕ) = list_of c.args.db.now in
    let places : List Place = places_of c.args.db.now in
    let place : Place = c.place-place.result in
    let old : Walk = c.args.self.now in
    let next : Walk = record { derivation = c.keep.new.self; back = old.back; closed = true } in
    lowering_kept vars list places l c.args.at place old next c.place-place.ensures.value refl refl
    c.in_ok-keep-in-None.ensures.lits
    (c.in_ok-keep-in-None.ensures.keeps vars list (lits_of places) c.args.at
    (lits_at places c.args.at place c.place-place.ensures.value) h.derived)
    h
