use Rattle.std.proofs.Common.{◌≡◌, ℕ, List, sym, subst, arith}
use Rattle.sat_plain.specs.declared.place.Place.{Place}
use Rattle.sat_plain.specs.Trails.{lits_of}
use Rattle.sat_cdcl.specs.Files.{list_of, places_of}
use Rattle.sat_cdcl.specs.Walks.{IsLowering, IsAsserting}
use Rattle.sat_cdcl.proofs.LowerLemmas.{asserting_of}
use Rattle.sat_cdcl.proofs.analyze.lowered.Goals as goal

pub returns-clause-accepted : goal.returns-clause-accepted
returns-clause-accepted c =
    let vars : ℕ = c.args.db.now.watched.trail.vars in
    let list : List (List ℕ) = list_of c.args.db.now in
    let places : List Place = places_of c.args.db.now in
    let zero : c.loop-at.at ≡ 0 = omega arith in
    let P : ℕ → Type 0 = λ k. IsLowering vars list places c.args.point.lit k c.loop-at.walk in
    let end : IsLowering vars list places c.args.point.lit 0 c.loop-at.walk = subst P zero c.loop-at.invariant.lowering in
    c.in_ok-line.ensures.accepted vars list (lits_of places) c.requires.walked end.derived

pub returns-clause-learnt : goal.returns-clause-learnt
returns-clause-learnt c =
    let vars : ℕ = c.args.db.now.watched.trail.vars in
    let list : List (List ℕ) = list_of c.args.db.now in
    let places : List Place = places_of c.args.db.now in
    let zero : c.loop-at.at ≡ 0 = omega arith in
    let P : ℕ → Type 0 = λ k. IsLowering vars list places c.args.point.lit k c.loop-at.walk in
    let end : IsLowering vars list places c.args.point.lit 0 c.loop-at.walk = subst P zero c.loop-at.invariant.lowering in
    let Q : ℕ → Type 0 = IsAsserting places c.in_ok-line.line.clause c.loop-at.walk.back in
    subst Q (sym c.not-lit.ensures)
    (asserting_of vars list places c.args.point.lit c.in_ok-line.line.clause c.loop-at.walk c.in_ok-line.ensures.clause end)
