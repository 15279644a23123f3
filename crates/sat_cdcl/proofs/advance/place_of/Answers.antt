use Rattle.std.proofs.Common.{◌≡◌, ℕ, ◌-◌, ◌≤◌, List, get_or, inl, inr, sym, ◌∙◌, ap, arith}
use Rattle.std.proofs.lemmas.Bool.Decides.{eqb_tells}
use Rattle.std.proofs.lemmas.Option.{get_or_from_slice_get}
use Rattle.sat_plain.specs.declared.place.Place.{Place}
use Rattle.sat_plain.specs.Trails.{lits_of}
use Rattle.sat_plain.proofs.PlaceLemmas.{lits_at}
use Rattle.sat_cdcl.proofs.advance.place_of.Goals as goal

pub loop-at-preserved : goal.loop-at-preserved
loop-at-preserved c = λ k d low within e.
    let at : ℕ = c.loop-at.at - 1 in
    let some = c.loop-at-test.true in
    let lits : List ℕ = lits_of c.args.trail.now.places in
    let place : Place = c.place.result.now in
    elim (eqb_tells k at) [
      | inl same ↦
          let is : place.lit ≡ c.args.lit =
          sym (get_or_from_slice_get lits at place.lit d (lits_at c.args.trail.now.places at place c.place.ensures.value))
          ∙ ap (λ j. get_or lits j d) (sym same.1) ∙ e in
          let no = sym c.eq.ensures ∙ c.if-eq.false in
          elim (eqb_tells place.lit c.args.lit) [
            | inl s ↦ let t = s.0 in cc
            | inr o ↦ o.1 is
          ]
      | inr other ↦ let o = other.1 in let above : c.loop-at.at ≤ k = grind arith in c.loop-at.invariant k d above within e
    ]
