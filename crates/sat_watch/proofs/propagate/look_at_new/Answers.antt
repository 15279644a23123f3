use Rattle.std.proofs.Common.{ℕ, List, refl, sym, subst, arith}
use Rattle.std.specs.List.{Contains}
use Rattle.sat_plain.specs.declared.place.Place.{Place}
use Rattle.sat_plain.specs.Trails.{lits_of}
use Rattle.sat_plain.proofs.PlaceLemmas.{lits_length}
use Rattle.sat_watch.specs.declared.front.Front.{Front}
use Rattle.sat_watch.specs.Watching.{Watching}
use Rattle.sat_watch.specs.Fronts.{IsTended}
use Rattle.sat_watch.proofs.TendLemmas.{tended_grown}
use Rattle.sat_watch.proofs.PassLemmas.{tended_new_looked}
use Rattle.sat_watch.proofs.propagate.look_at_new.Goals as goal

pub returns-in-Done-clause-tended : goal.returns-in-Done-clause-tended
returns-in-Done-clause-tended c =
    let vars : ℕ = c.args.trail.now.vars in
    let before : List Place = c.args.trail.now.places in
    let after : List Place = c.look_at_each.new.trail.places in
    let old : Watching = c.args.watches.now in
    let w : Watching = c.look_at_each.new.watches in
    let a : Front = c.args.front.now in
    let e = c.look_at_each.ensures in
    let h : IsTended vars c.args.store.now (lits_of after) w a =
    tended_grown vars c.args.store.now before after old w a e.grown e.keeps c.requires.tended in
    let b : Front = record { marks = a.marks; log = a.log; head = a.head; seen = c.len-front.result; dirty = a.dirty } in
    let low = c.requires.tended.front_is.low c.requires.clean in
    tended_new_looked vars c.args.store.now before after w a b e.grown c.requires.clean (omega (arith, low, lits_length before))
    refl refl refl (omega (arith, c.len-front.ensures))
    (λ k clause has there.
    let P : List ℕ → Type 0 = λ v. Contains v k in
    c.in-Done.ensures.swept k clause (subst P (sym c.unseen.ensures) has) there) h

pub returns-in-False-clause-tended : goal.returns-in-False-clause-tended
returns-in-False-clause-tended c =
    let vars : ℕ = c.args.trail.now.vars in
    let before : List Place = c.args.trail.now.places in
    let after : List Place = c.look_at_each.new.trail.places in
    let old : Watching = c.args.watches.now in
    let w : Watching = c.look_at_each.new.watches in
    let a : Front = c.args.front.now in
    let e = c.look_at_each.ensures in
    let h : IsTended vars c.args.store.now (lits_of after) w a =
    tended_grown vars c.args.store.now before after old w a e.grown e.keeps c.requires.tended in
    h

pub returns-in-Unsettled-clause-tended : goal.returns-in-Unsettled-clause-tended
returns-in-Unsettled-clause-tended c =
    let vars : ℕ = c.args.trail.now.vars in
    let before : List Place = c.args.trail.now.places in
    let after : List Place = c.look_at_each.new.trail.places in
    let old : Watching = c.args.watches.now in
    let w : Watching = c.look_at_each.new.watches in
    let a : Front = c.args.front.now in
    let e = c.look_at_each.ensures in
    let h : IsTended vars c.args.store.now (lits_of after) w a =
    tended_grown vars c.args.store.now before after old w a e.grown e.keeps c.requires.tended in
    h
