use Rattle.std.proofs.Common.{◌≡◌, ℕ, Some, true, sym, subst}
use Rattle.std.proofs.lemmas.Option.{same_Some}
use Rattle.ja_base.specs.Literals.{bit}
use Rattle.ja_base.specs.Trails.{IsForcedBy}
use Rattle.sat_plain.specs.declared.place.Place.{Place}
use Rattle.sat_plain.specs.Trails.{lits_of}
use Rattle.sat_watch.specs.Stores.{Watched, Stored}
use Rattle.sat_watch.specs.Fronts.{IsTended}
use Rattle.sat_watch.proofs.TendLemmas.{tended_push}
use Rattle.sat_watch.proofs.HeldLemmas.{held_push}
use Rattle.sat_watch.proofs.watch.Watch.force.Goals as goal

pub propagate-requires-clause-held : goal.propagate-requires-clause-held
propagate-requires-clause-held c =
    let store : Stored = c.self.inside.store in
    let lit : ℕ = c.args.lit in
    let at : ℕ = c.args.at in
    let place : Place = record { lit = lit; reason = Some at } in
    let F : Watched → Type 0 = λ w. IsForcedBy w.store.clauses (lits_of w.trail.places) lit at in
    let by = subst F (sym c.self.view_is) c.requires.forced in
    let L : Watched → Type 0 = λ w. bit w.store.live at ≡ true in
    let live = subst L (sym c.self.view_is) c.requires.live in
    let P : ℕ → Type 0 = IsForcedBy store.clauses (lits_of c.self.inside.trail.places) lit in
    let Q : ℕ → Type 0 = λ n. bit store.live n ≡ true in
    held_push store c.self.inside.trail c.push.new.self place c.self.invariant.1 c.push.ensures.places
    (λ n r. subst P (same_Some at n r) by) (λ n r. subst Q (same_Some at n r) live)

pub propagate-requires-clause-tended : goal.propagate-requires-clause-tended
propagate-requires-clause-tended c =
    let place : Place = record { lit = c.args.lit; reason = Some c.args.at } in
    let P : ℕ → Type 0 = λ n. IsTended n c.self.inside.store (lits_of c.push.new.self.places) c.self.inside.watches c.self.inside.front in
    subst P (sym c.push.ensures.vars)
    (tended_push c.self.inside.trail.vars c.self.inside.store c.self.inside.trail.places c.push.new.self.places place
    c.self.inside.watches c.self.inside.front c.push.ensures.places c.self.invariant.2)
