use Rattle.std.proofs.Common.{◌≡◌, ℕ, ◌<◌, List, [], ◌∷◌, ◌++◌, Some, slice_get, length, take, sym, subst, ◌∙◌, arith}
use Rattle.std.proofs.lemmas.Bool.{OnTrue_at}
use Rattle.std.proofs.lemmas.Option.{slice_get_within, same_Some}
use Rattle.ja_base.specs.Literals.{variable, negated}
use Rattle.ja_base.proofs.LiteralLemmas.{literal_within}
use Rattle.sat_plain.specs.declared.place.Place.{Place}
use Rattle.ja_base.specs.Trails.{IsReason}
use Rattle.sat_plain.specs.Trails.{lits_of}
use Rattle.sat_plain.specs.Derive.{IsWalked}
use Rattle.sat_plain.specs.Walks.{IsLast}
use Rattle.sat_plain.proofs.PlaceLemmas.{lits_at}
use Rattle.sat_plain.proofs.WalkLemmas.{last_lower, last_kept, walked_of, place_below, spans_of, below_at}
use Rattle.sat_plain.proofs.analyze.Walk.step.Goals as goal

pub skips-requires : goal.skips-requires
skips-requires c =
    let place : Place = c.place-place.result.now in
    let small : variable place.lit < c.args.trail.now.vars =
    place_below c.args.trail.now.vars c.args.trail.now.values c.args.trail.now.places c.args.at place c.place-place.ensures.is
    c.place-place.ensures.value in
    let width = c.requires.walk.derived.width in
    omega (arith, literal_within place.lit c.args.trail.now.vars small)

pub returns-then-skips : goal.returns-then-skips
returns-then-skips c =
    let places : List Place = c.args.trail.now.places in
    let place : Place = c.place-place.result.now in
    record {
      derived = OnTrue_at c.if-skips.true c.skips.ensures.skips c.args.trail.now.vars c.args.clauses.now.list (lits_of places)
          c.args.at (lits_at places c.args.at place c.place-place.ensures.value) c.requires.walk.derived;
      highest = last_lower places c.args.at c.args.self.now.derivation.lits c.args.self.now.last c.requires.walk.highest;
    }

pub clause-requires : goal.clause-requires
clause-requires c =
    let by = c.requires.forced.at c.args.at c.in-Some.number c.place-place.result.now c.place-place.ensures.value c.in-Some.is in
    slice_get_within c.args.clauses.now.list c.in-Some.number by.clause by.is

pub resolve-requires-clause-clause : goal.resolve-requires-clause-clause
resolve-requires-clause-clause c =
    spans_of c.args.trail.now.vars (length c.args.self.now.derivation.marks) c.clause.result.now
    c.requires.walk.derived.width
    (below_at c.args.trail.now.vars c.args.clauses.now.list c.in-Some.number c.clause.result.now c.requires.below
    c.clause.ensures)

pub returns-in_ok-resolve-in-Some : goal.returns-in_ok-resolve-in-Some
returns-in_ok-resolve-in-Some c =
    let vars : ℕ = c.args.trail.now.vars in
    let list : List (List ℕ) = c.args.clauses.now.list in
    let places : List Place = c.args.trail.now.places in
    let place : Place = c.place-place.result.now in
    let there : slice_get (lits_of places) c.args.at ≡ Some place.lit =
    lits_at places c.args.at place c.place-place.ensures.value in
    let by = c.requires.forced.at c.args.at c.in-Some.number place c.place-place.ensures.value c.in-Some.is in
    let same : by.clause ≡ c.clause.result.now = same_Some by.clause c.clause.result.now (sym by.is ∙ c.clause.ensures) in
    let P : List ℕ → Type 0 = IsReason (take c.args.at (lits_of places)) place.lit in
    let walked : IsWalked vars (lits_of places) =
    walked_of vars c.args.trail.now.values (lits_of places) c.place-place.ensures.is in
    let Q : List ℕ → Type 0 = λ v. IsLast places c.args.at v c.args.self.now.last in
    record {
      derived = c.in_ok-resolve-in-Some.ensures.resolves vars list (lits_of places) c.args.at there c.clause.ensures
          (subst P same by.reason) walked c.requires.walk.derived;
      highest = subst Q (sym c.in_ok-resolve-in-Some.ensures.lits)
          (last_lower places c.args.at c.args.self.now.derivation.lits c.args.self.now.last c.requires.walk.highest);
    }

pub returns-in_ok-keep-in-None : goal.returns-in_ok-keep-in-None
returns-in_ok-keep-in-None c =
    let vars : ℕ = c.args.trail.now.vars in
    let places : List Place = c.args.trail.now.places in
    let place : Place = c.place-place.result.now in
    let P : List ℕ → Type 0 = λ v. IsLast places c.args.at v (Some c.unwrap_or.result) in
    let Q : ℕ → Type 0 = λ k. IsLast places c.args.at (c.args.self.now.derivation.lits ++ negated place.lit ∷ []) (Some k) in
    record {
      derived = c.in_ok-keep-in-None.ensures.keeps vars c.args.clauses.now.list (lits_of places) c.args.at
          (lits_at places c.args.at place c.place-place.ensures.value) c.requires.walk.derived;
      highest = subst P (sym c.in_ok-keep-in-None.ensures.lits)
          (subst Q (sym c.unwrap_or.ensures)
          (last_kept places c.args.at place c.args.self.now.derivation.lits c.args.self.now.last c.place-place.ensures.value
          c.in-None.is c.requires.walk.highest));
    }
