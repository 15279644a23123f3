use Rattle.std.proofs.Common.{◌≡◌, ℕ, ◌+◌, ◌≤◌, ◌^◌, Bool, false, List, [], ◌∷◌, ◌++◌, vec_capacity, sym, subst, ◌∙◌, ap, arith}
use Rattle.std.proofs.lemmas.Bool.Decides.{nat_tests}
use Rattle.ja_base.specs.Trails.{IsTrail}
use Rattle.sat_plain.specs.declared.place.Place.{Place}
use Rattle.sat_plain.specs.Trails.{lits_of}
use Rattle.sat_plain.proofs.TrailLemmas.{widened}
use Rattle.sat_plain.proofs.trail.Trail.fresh.Goals as goal

pub invariant_of-self-2 : goal.invariant_of-self-2
invariant_of-self-2 c =
    let n : ℕ = c.self.inside.vars in
    let values : List Bool = c.self.inside.values.items in
    let bits : c.push_reserved-2.new.self.items ≡ (values ++ false ∷ []) ++ false ∷ [] =
    c.push_reserved-2.ensures.items ∙ ap (λ (v : List Bool). v ++ false ∷ []) c.push_reserved.ensures.items
    ∙ ap (λ (v : List Bool). (v ++ false ∷ []) ++ false ∷ []) c.reserve-2.ensures.items in
    let P : List Bool → Type 0 = λ v. IsTrail (n + 1) v (lits_of c.self.inside.places.items) in
    let Q : List Place → Type 0 = λ v. IsTrail (n + 1) c.push_reserved-2.new.self.items (lits_of v) in
    let is = subst P (sym bits) (widened n values (lits_of c.self.inside.places.items) c.self.invariant.0) in
    let room : n + 1 ≤ vec_capacity c.reserve.new.self =
    let o = c.in_ok-reserve.ensures.ok in
    let e = c.len.ensures in
    omega arith in
    let small : n + 1 ≤ 2 ^ 31 = let b = c.if-self-ge-MOST_VARS.false in grind (arith, nat_tests) in
    (subst Q (sym c.reserve.ensures.items) is, room, small)
