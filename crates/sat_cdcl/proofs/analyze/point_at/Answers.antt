use Rattle.std.proofs.Common.{◌≡◌, ℕ, ◌+◌, ◌-◌, ◌<◌, List, [], ◌∷◌, ◌++◌, length, Some, slice_get, subst, ◌∙◌, ap, arith}
use Rattle.std.proofs.lemmas.Bool.{OnTrue_at}
use Rattle.ja_base.specs.Literals.{bit, negated}
use Rattle.sat_plain.specs.declared.place.Place.{Place}
use Rattle.sat_plain.specs.Trails.{Assigned, lits_of}
use Rattle.sat_plain.specs.Derive.{Derived, IsDerived}
use Rattle.sat_plain.proofs.PlaceLemmas.{lits_at}
use Rattle.sat_cdcl.specs.Files.{list_of, places_of}
use Rattle.sat_cdcl.specs.Walks.{IsDecided, AreUnmarked}
use Rattle.sat_cdcl.proofs.PointLemmas.{within_marks, skipped_down, dropped_has}
use Rattle.sat_cdcl.proofs.analyze.point_at.Goals as goal

pub skips-requires : goal.skips-requires
skips-requires c =
    let w =
    within_marks c.args.db.now.watched.trail.vars (length c.args.derivation.now.marks) c.args.db.now.watched.trail.values
    (places_of c.args.db.now) c.args.at c.place-place.result c.place-place.ensures.is c.place-place.ensures.value
    c.requires.derived.width in
    w.0

pub returns-then-skips-clause-point : goal.returns-then-skips-clause-point
returns-then-skips-clause-point c =
    let places : List Place = places_of c.args.db.now in (
      OnTrue_at c.if-skips.true c.skips.ensures.skips c.args.db.now.watched.trail.vars (list_of c.args.db.now) (lits_of places)
          c.args.at (lits_at places c.args.at c.place-place.result c.place-place.ensures.value) c.requires.derived,
      c.requires.empty,
    )

pub returns-in_ok-keep-in-None-clause-point : goal.returns-in_ok-keep-in-None-clause-point
returns-in_ok-keep-in-None-clause-point c =
    let places : List Place = places_of c.args.db.now in
    let place : Place = c.place-place.result in
    let there : slice_get (lits_of places) c.args.at ≡ Some place.lit =
    lits_at places c.args.at place c.place-place.ensures.value in
    record {
      derived = c.in_ok-keep-in-None.ensures.keeps c.args.db.now.watched.trail.vars (list_of c.args.db.now) (lits_of places)
          c.args.at there c.requires.derived;
      one = c.in_ok-keep-in-None.ensures.lits ∙ ap (λ v. v ++ negated place.lit ∷ []) c.requires.empty;
      back = record { place = place; is = c.place-place.ensures.value; decided = c.in-None.is };
      above = dropped_has (lits_of places) c.args.at c.args.at place.lit (omega arith) there;
    }

pub returns-in_ok-keep-in-Some-back_below-clause-point : goal.returns-in_ok-keep-in-Some-back_below-clause-point
returns-in_ok-keep-in-Some-back_below-clause-point c =
    let places : List Place = places_of c.args.db.now in
    let place : Place = c.place-place.result in
    let vars : ℕ = c.args.db.now.watched.trail.vars in
    let list : List (List ℕ) = list_of c.args.db.now in
    let at : ℕ = c.args.at in
    let back : ℕ = c.in-Some-back_below.back in
    let d : Derived = c.keep-in-Some-back_below.new.self in
    let there : slice_get (lits_of places) at ≡ Some place.lit = lits_at places at place c.place-place.ensures.value in
    let F : Assigned → Type 0 =
    λ t. (back < at) × IsDecided t.places back × AreUnmarked t.places c.args.derivation.now back at in
    let found = subst F c.trail.ensures.value c.in-Some-back_below.ensures in
    let low : back < at = found.0 in
    let free : AreUnmarked places d back at =
    λ q l least less e. ap (λ v. bit v l) c.in_ok-keep-in-Some-back_below.ensures.marks ∙ found.2 q l least less e in
    let sum : at ≡ back + (at - back) = omega arith in
    let P : ℕ → Type 0 = AreUnmarked places d back in
    let Q : ℕ → Type 0 = λ n. IsDerived vars list (lits_of places) n d in
    let kept : IsDerived vars list (lits_of places) at d =
    c.in_ok-keep-in-Some-back_below.ensures.keeps vars list (lits_of places) at there c.requires.derived in
    record {
      derived = skipped_down vars list places d back (at - back) (omega (arith, c.requires.at)) (subst P sum free)
          (subst Q sum kept);
      one = c.in_ok-keep-in-Some-back_below.ensures.lits ∙ ap (λ v. v ++ negated place.lit ∷ []) c.requires.empty;
      back = found.1;
      above = dropped_has (lits_of places) back at place.lit (omega arith) there;
    }
