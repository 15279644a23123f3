use Rattle.std.proofs.Common.{◌≡◌, ℕ, ◌≤◌, Bool, false, List, [], ◌∷◌, ◌++◌, set, sym, subst, ◌∙◌, ap, arith}
use Rattle.std.proofs.lemmas.List.{map_push}
use Rattle.std.specs.Option.{option_to_list}
use Rattle.sat_plain.specs.declared.place.Place.{Place}
use Rattle.ja_base.specs.Trails.{IsTrail}
use Rattle.sat_plain.specs.Trails.{lits_of}
use Rattle.sat_plain.proofs.TrailLemmas.{popped}
use Rattle.sat_plain.proofs.trail.Trail.pop.Goals as goal

pub invariant_of-self : goal.invariant_of-self
invariant_of-self c =
    let values : List Bool = c.self.inside.values.items in
    let places : List Place = c.self.inside.places.items in
    let left : List Place = c.pop.new.self.items in
    let n : ℕ = c.self.inside.vars in
    let place : Place = c.in-Some.place in
    let whole : places ≡ left ++ place ∷ [] =
    c.pop.ensures.items ∙ ap (λ o. left ++ option_to_list o) c.in-Some.is in
    let lits : lits_of places ≡ lits_of left ++ place.lit ∷ [] =
    ap lits_of whole ∙ map_push (λ (p : Place). p.lit) left place in
    let P : List ℕ → Type 0 = λ v. IsTrail n values v in
    let is : IsTrail n (set values place.lit false) (lits_of left) =
    popped n place.lit values (lits_of left) (subst P lits c.self.invariant.0) in
    let Q : ℕ → Type 0 = λ k. IsTrail n (set values k false) (lits_of left) in
    let room : n ≤ c.pop.new.self.cap = let e = c.pop.ensures.capacity in let r = c.self.invariant.1 in omega arith in
    (subst Q (sym c.number.ensures) is, room, c.self.invariant.2)
