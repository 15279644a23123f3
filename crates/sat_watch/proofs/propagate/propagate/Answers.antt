use Rattle.std.proofs.Common.{ℕ, ◌≤◌, true, List, length, refl, sym, subst, ◌∙◌, arith}
use Rattle.sat_plain.specs.declared.place.Place.{Place}
use Rattle.sat_plain.specs.Trails.{lits_of}
use Rattle.sat_plain.proofs.PlaceLemmas.{lits_length}
use Rattle.sat_watch.specs.declared.front.Front.{Front}
use Rattle.sat_watch.specs.Watching.{Watching}
use Rattle.sat_watch.specs.Fronts.{IsTended}
use Rattle.sat_watch.proofs.StepLemmas.{forced_chain}
use Rattle.sat_watch.proofs.SafeLemmas.{keeps_none}
use Rattle.sat_watch.proofs.TendLemmas.{tended_front, tended_grown}
use Rattle.sat_watch.proofs.PassLemmas.{tended_dirty, tended_end, tended_quiet}
use Rattle.sat_watch.proofs.propagate.propagate.Goals as goal

pub returns-in-Done-clause-step : goal.returns-in-Done-clause-step
returns-in-Done-clause-step c = λ k clause there.
    let lits : List ℕ = lits_of c.look_through.new.trail.places in
    let done = c.in-Done.ensures.swept in
    let past : length lits ≤ c.look_through.new.front.head = omega (arith, done.1, lits_length c.look_through.new.trail.places) in
    tended_quiet c.args.trail.now.vars c.args.store.now c.look_through.new.trail.values lits c.look_through.new.watches
    c.look_through.new.front c.look_through.new.trail.vars c.look_through.ensures.is done.0 past c.look_through.ensures.tended k clause
    there

pub returns-in-Done-clause-tended : goal.returns-in-Done-clause-tended
returns-in-Done-clause-tended c =
    let vars : ℕ = c.args.trail.now.vars in
    let places : List Place = c.look_through.new.trail.places in
    let lits : List ℕ = lits_of places in
    let w : Watching = c.look_through.new.watches in
    let front : Front = c.look_through.new.front in
    let done = c.in-Done.ensures.swept in
    let h : IsTended vars c.args.store.now lits w front = c.look_through.ensures.tended in
    let past : length lits ≤ front.head = omega (arith, done.1, lits_length places) in
    let P : ℕ → Type 0 = λ n. IsTended n c.args.store.now lits w c.settle.new.self in
    subst P (sym c.look_through.ensures.vars)
    (tended_front vars c.args.store.now lits w front c.settle.new.self
    (c.settle.ensures vars c.args.store.now w lits h.front_is (c.len.ensures.value ∙ sym (lits_length places))
    (tended_end vars c.args.store.now lits w front done.0 past h)) h)

pub returns-in-Unsettled-clause-grown : goal.returns-in-Unsettled-clause-grown
returns-in-Unsettled-clause-grown c =
    forced_chain c.args.trail.now.places c.look_through.new.trail.places c.saturate.new.trail.places c.look_through.ensures.grown
    c.saturate.ensures.grown

pub returns-in-Unsettled-clause-tended : goal.returns-in-Unsettled-clause-tended
returns-in-Unsettled-clause-tended c =
    let vars : ℕ = c.args.trail.now.vars in
    let before : List Place = c.look_through.new.trail.places in
    let after : List Place = c.saturate.new.trail.places in
    let w : Watching = c.look_through.new.watches in
    let a : Front = c.look_through.new.front in
    let b : Front = record { marks = a.marks; log = a.log; head = a.head; seen = a.seen; dirty = true } in
    let h : IsTended vars c.args.store.now (lits_of before) w b =
    tended_dirty vars c.args.store.now (lits_of before) w a b refl refl refl c.look_through.ensures.tended in
    let P : ℕ → Type 0 = λ n. IsTended n c.args.store.now (lits_of after) w b in
    subst P (sym (c.saturate.ensures.vars ∙ c.look_through.ensures.vars))
    (tended_grown vars c.args.store.now before after w w b c.saturate.ensures.grown (keeps_none c.args.store.now (lits_of before) w) h)
