use Rattle.std.proofs.Common.{◌≡◌, ℕ, ◌<◌, Bool, List, [], ◌∷◌, ◌++◌, take, Some, sym, subst, ◌∙◌, ap, arith}
use Rattle.std.proofs.lemmas.Option.{same_Some}
use Rattle.ja_base.specs.Literals.{variable, negated}
use Rattle.ja_base.proofs.LiteralLemmas.{variable_negated}
use Rattle.sat_plain.specs.declared.place.Place.{Place}
use Rattle.ja_base.specs.Trails.{IsTrail}
use Rattle.sat_plain.specs.Trails.{lits_of}
use Rattle.sat_plain.proofs.TrailLemmas.{unset_after}
use Rattle.sat_plain.proofs.PlaceLemmas.{lits_at, lits_take, lits_length}
use Rattle.sat_plain.proofs.WalkLemmas.{place_below}
use Rattle.sat_plain.proofs.backtrack.flip.Goals as goal

-- the trail that is left
left_is : (vars vars' p : ℕ) (values : List Bool) (places places' : List Place) → vars' ≡ vars → places' ≡ take p places
    → IsTrail vars' values (lits_of places') → IsTrail vars values (take p (lits_of places))
left_is vars vars' p values places places' e f is =
    let P : ℕ → Type 0 = λ n. IsTrail n values (lits_of places') in
    let Q : List ℕ → Type 0 = IsTrail vars values in
    subst Q (ap lits_of f ∙ lits_take p places) (subst P e is)

pub push-requires-clause-below : goal.push-requires-clause-below
push-requires-clause-below c =
    let place : Place = c.place.result.now in
    let small : variable place.lit < c.args.trail.now.vars =
    place_below c.args.trail.now.vars c.args.trail.now.values c.args.trail.now.places c.args.at place c.place.ensures.is
    c.place.ensures.value in
    let same : variable c.not.result ≡ variable place.lit = ap variable c.not.ensures ∙ variable_negated place.lit in
    omega (arith, c.undo.ensures.vars)

pub push-requires-clause-unset : goal.push-requires-clause-unset
push-requires-clause-unset c =
    let place : Place = c.place.result.now in
    unset_after c.args.trail.now.vars c.args.at place.lit c.not.result c.args.trail.now.values c.undo.new.self.values
    (lits_of c.args.trail.now.places) c.place.ensures.is (lits_at c.args.trail.now.places c.args.at place c.place.ensures.value)
    (left_is c.args.trail.now.vars c.undo.new.self.vars c.args.at c.undo.new.self.values c.args.trail.now.places
    c.undo.new.self.places c.undo.ensures.vars c.undo.ensures.places c.undo.ensures.is)
    (ap variable c.not.ensures ∙ variable_negated place.lit)

pub push-requires-clause-free : goal.push-requires-clause-free
push-requires-clause-free c =
    let place : Place = c.place.result.now in
    unset_after c.args.trail.now.vars c.args.at place.lit (negated c.not.result) c.args.trail.now.values
    c.undo.new.self.values (lits_of c.args.trail.now.places) c.place.ensures.is
    (lits_at c.args.trail.now.places c.args.at place c.place.ensures.value)
    (left_is c.args.trail.now.vars c.undo.new.self.vars c.args.at c.undo.new.self.values c.args.trail.now.places
    c.undo.new.self.places c.undo.ensures.vars c.undo.ensures.places c.undo.ensures.is)
    (variable_negated c.not.result ∙ ap variable c.not.ensures ∙ variable_negated place.lit)

pub returns-clause-places : goal.returns-clause-places
returns-clause-places c = λ lit there.
    let place : Place = c.place.result.now in
    let same : place.lit ≡ lit =
    same_Some place.lit lit (sym (lits_at c.args.trail.now.places c.args.at place c.place.ensures.value) ∙ there) in
    let Q : List Place → ℕ → List Place = λ v k. v ++ record { lit = k; reason = Some c.args.number } ∷ [] in
    c.push.ensures.places ∙ ap (λ v. Q v c.not.result) c.undo.ensures.places
    ∙ ap (Q (take c.args.at c.args.trail.now.places)) (c.not.ensures ∙ ap negated same)

pub returns-clause-short : goal.returns-clause-short
returns-clause-short c =
    let is = c.place.ensures.is in
    let s = is.short in
    omega (arith, lits_length c.args.trail.now.places)
