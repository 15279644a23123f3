use Rattle.std.proofs.Common.{◌≡◌, ℕ, ◌+◌, ◌<◌, List, length, Some, slice_get, true, refl, sym, subst, ◌∙◌, ap, arith}
use Rattle.ja_base.specs.Literals.{bit, variable, negated}
use Rattle.sat_plain.specs.declared.place.Place.{Place}
use Rattle.sat_plain.specs.Trails.{lits_of}
use Rattle.sat_watch.specs.declared.front.Front.{Front}
use Rattle.sat_watch.specs.Watching.{Watching, slots_at}
use Rattle.sat_watch.specs.Visits.{AreSwept}
use Rattle.sat_watch.specs.Fronts.{IsTended}
use Rattle.sat_watch.proofs.TendLemmas.{tended_grown}
use Rattle.ja_base.proofs.LiteralLemmas.{negated_twice, negated_within}
use Rattle.sat_plain.proofs.Members.{known_here, taken_is_on}
use Rattle.sat_plain.proofs.PlaceLemmas.{lits_at}
use Rattle.sat_plain.proofs.WalkLemmas.{place_below}
use Rattle.sat_watch.proofs.PassLemmas.{tended_swept, tended_based}
use Rattle.sat_watch.proofs.propagate.look_on.Goals as goal

pub returns-in-Done-clause-tended : goal.returns-in-Done-clause-tended
returns-in-Done-clause-tended c =
    let vars : ℕ = c.args.trail.now.vars in
    let before : List Place = c.args.trail.now.places in
    let after : List Place = c.sweep.new.trail.places in
    let old : Watching = c.args.watches.now in
    let w : Watching = c.sweep.new.watches in
    let a : Front = c.args.front.now in
    let e = c.sweep.ensures in
    let h : IsTended vars c.args.store.now (lits_of after) w a =
    tended_grown vars c.args.store.now before after old w a e.grown e.keeps c.requires.tended in
    let b : Front = record { marks = a.marks; log = a.log; head = a.head + 1; seen = a.seen; dirty = a.dirty } in
    let place : Place = c.place.result.now in
    let is : slice_get (lits_of before) a.head ≡ Some place.lit = lits_at before a.head place c.place.ensures.value in
    let P : ℕ → Type 0 =
    λ n. AreSwept c.args.store.now (lits_of before) old (lits_of after) w n (length (slots_at w n)) in
    tended_swept vars c.args.store.now before after old w a b place.lit e.grown c.requires.ready c.requires.head is refl refl refl
    refl (subst P c.not.ensures c.in-Done.ensures.swept) c.requires.tended h

pub returns-in-False-clause-tended : goal.returns-in-False-clause-tended
returns-in-False-clause-tended c =
    let vars : ℕ = c.args.trail.now.vars in
    let before : List Place = c.args.trail.now.places in
    let after : List Place = c.sweep.new.trail.places in
    let old : Watching = c.args.watches.now in
    let w : Watching = c.sweep.new.watches in
    let a : Front = c.args.front.now in
    let e = c.sweep.ensures in
    let h : IsTended vars c.args.store.now (lits_of after) w a =
    tended_grown vars c.args.store.now before after old w a e.grown e.keeps c.requires.tended in
    h

pub returns-in-Unsettled-clause-tended : goal.returns-in-Unsettled-clause-tended
returns-in-Unsettled-clause-tended c =
    let vars : ℕ = c.args.trail.now.vars in
    let before : List Place = c.args.trail.now.places in
    let after : List Place = c.sweep.new.trail.places in
    let old : Watching = c.args.watches.now in
    let w : Watching = c.sweep.new.watches in
    let a : Front = c.args.front.now in
    let e = c.sweep.ensures in
    let h : IsTended vars c.args.store.now (lits_of after) w a =
    tended_grown vars c.args.store.now before after old w a e.grown e.keeps c.requires.tended in
    h

pub sweep-requires-clause-within : goal.sweep-requires-clause-within
sweep-requires-clause-within c =
    let place : Place = c.place.result.now in
    let small : variable place.lit < c.args.trail.now.vars =
    place_below c.args.trail.now.vars c.args.trail.now.values c.args.trail.now.places c.args.front.now.head place
    c.place.ensures.is c.place.ensures.value in
    omega (arith, negated_within place.lit c.args.trail.now.vars small, c.not.ensures, c.requires.tended.wide)

pub sweep-requires-clause-wrong : goal.sweep-requires-clause-wrong
sweep-requires-clause-wrong c =
    let places : List Place = c.args.trail.now.places in
    let head : ℕ = c.args.front.now.head in
    let place : Place = c.place.result.now in
    let is : slice_get (lits_of places) head ≡ Some place.lit = lits_at places head place c.place.ensures.value in
    let same : negated c.not.result ≡ place.lit = ap negated c.not.ensures ∙ negated_twice place.lit in
    let P : ℕ → Type 0 = λ n. bit c.args.trail.now.values n ≡ true in
    let trail = c.place.ensures.is in
    subst P (sym same)
    (trail.on place.lit (taken_is_on (lits_of places) (head + 1) place.lit (known_here (lits_of places) head place.lit is)))

pub sweep-requires-clause-based : goal.sweep-requires-clause-based
sweep-requires-clause-based c = λ k.
    tended_based c.args.trail.now.vars c.args.store.now (lits_of c.args.trail.now.places) c.args.watches.now c.args.front.now
    c.requires.ready c.requires.tended k
