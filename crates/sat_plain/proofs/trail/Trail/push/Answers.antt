use Rattle.std.proofs.Common.{◌≡◌, ℕ, ◌<◌, ◌≤◌, Bool, true, false, List, [], ◌∷◌, ◌++◌, set, refl, sym, subst, ◌∙◌, ap, arith}
use Rattle.std.proofs.lemmas.List.{length_push}
use Rattle.ja_base.specs.Literals.{bit, variable, negated}
use Rattle.sat_plain.specs.declared.place.Place.{Place}
use Rattle.ja_base.specs.Trails.{IsTrail}
use Rattle.sat_plain.specs.Trails.{Assigned, lits_of}
use Rattle.sat_plain.proofs.TrailLemmas.{pushed}
use Rattle.sat_plain.proofs.PlaceLemmas.{lits_push, lits_length}
use Rattle.sat_plain.proofs.trail.Trail.push.Goals as goal

-- the trail with its values and places as the code reads them
is_pushed : (before : Assigned) (n l k : ℕ) (values : List Bool) (places news : List Place) (place : Place) → n ≡ before.vars
    → values ≡ before.values → k ≡ l → news ≡ places ++ place ∷ [] → place.lit ≡ l → variable l < before.vars
    → bit before.values l ≡ false → bit before.values (negated l) ≡ false → IsTrail n values (lits_of places)
    → IsTrail n (set values k true) (lits_of news)
is_pushed before n l k values places news place vars row at more lit small unset free is =
    let P : ℕ → Type 0 = λ m. IsTrail n (set values m true) (lits_of news) in
    let Q : List ℕ → Type 0 = IsTrail n (set values l true) in
    let below : variable l < n = omega arith in
    subst P (sym at) (subst Q (sym (ap lits_of more ∙ lits_push places place ∙ ap (λ m. lits_of places ++ m ∷ []) lit))
    (pushed n l values (lits_of places) below (ap (λ v. bit v l) row ∙ unset) (ap (λ v. bit v (negated l)) row ∙ free) is))

pub push_reserved-requires : goal.push_reserved-requires
push_reserved-requires c =
    let places : List Place = c.self.inside.places.items in
    let place : Place = record { lit = c.args.lit; reason = c.args.reason } in
    let is =
    is_pushed c.args.self.now c.self.inside.vars c.args.lit c.args.lit c.self.inside.values.items places
    (places ++ place ∷ []) place (ap (λ (a : Assigned). a.vars) c.self.view_is) (ap (λ (a : Assigned). a.values) c.self.view_is)
    (refl) (refl) (refl) c.requires.below c.requires.unset c.requires.free c.self.invariant.0 in
    let short = is.short in
    omega (arith, lits_length (places ++ place ∷ []), length_push places place, c.self.invariant.1)

pub invariant_of-self : goal.invariant_of-self
invariant_of-self c =
    let places : List Place = c.self.inside.places.items in
    let place : Place = record { lit = c.args.lit; reason = c.args.reason } in
    let room : c.self.inside.vars ≤ c.push_reserved.new.self.cap =
    let e = c.push_reserved.ensures.capacity in let r = c.self.invariant.1 in omega arith in (
      is_pushed c.args.self.now c.self.inside.vars c.args.lit c.number.result c.self.inside.values.items places
          c.push_reserved.new.self.items place (ap (λ (a : Assigned). a.vars) c.self.view_is)
          (ap (λ (a : Assigned). a.values) c.self.view_is) c.number.ensures c.push_reserved.ensures.items refl c.requires.below
          c.requires.unset c.requires.free c.self.invariant.0,
      room,
      c.self.invariant.2,
    )

pub returns-clause-is : goal.returns-clause-is
returns-clause-is c =
    let place : Place = record { lit = c.args.lit; reason = c.args.reason } in
    is_pushed c.args.self.now c.self.inside.vars c.args.lit c.number.result c.self.inside.values.items
    c.self.inside.places.items c.push_reserved.new.self.items place (ap (λ (a : Assigned). a.vars) c.self.view_is)
    (ap (λ (a : Assigned). a.values) c.self.view_is) c.number.ensures c.push_reserved.ensures.items refl c.requires.below
    c.requires.unset c.requires.free c.self.invariant.0
