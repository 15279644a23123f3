use Rattle.std.proofs.Common.{ℕ, None, sym, subst}
use Rattle.sat_plain.specs.Trails.{lits_of}
use Rattle.sat_plain.specs.declared.place.Place.{Place}
use Rattle.sat_watch.specs.Fronts.{IsTended}
use Rattle.sat_watch.proofs.TendLemmas.{tended_push}
use Rattle.sat_watch.proofs.HeldLemmas.{held_push}
use Rattle.sat_watch.proofs.watch.Watch.assign.Goals as goal

pub propagate-requires-clause-held : goal.propagate-requires-clause-held
propagate-requires-clause-held c =
    let place : Place = record { lit = c.args.lit; reason = None } in
    held_push c.self.inside.store c.self.inside.trail c.push.new.self place c.self.invariant.1 c.push.ensures.places
    (λ n r. cc) (λ n r. cc)

pub propagate-requires-clause-tended : goal.propagate-requires-clause-tended
propagate-requires-clause-tended c =
    let place : Place = record { lit = c.args.lit; reason = None } in
    let P : ℕ → Type 0 = λ n. IsTended n c.self.inside.store (lits_of c.push.new.self.places) c.self.inside.watches c.self.inside.front in
    subst P (sym c.push.ensures.vars)
    (tended_push c.self.inside.trail.vars c.self.inside.store c.self.inside.trail.places c.push.new.self.places place
    c.self.inside.watches c.self.inside.front c.push.ensures.places c.self.invariant.2)
