use Rattle.std.proofs.Common.{List, None, sym, subst}
use Rattle.std.proofs.lemmas.Option.{none-some}
use Rattle.sat_plain.specs.declared.place.Place.{Place}
use Rattle.sat_plain.specs.Trails.{AreForced}
use Rattle.sat_plain.proofs.PlaceLemmas.{forced_push}
use Rattle.sat_plain.proofs.TrailLemmas.{full_by_variables}
use Rattle.sat_plain.proofs.propagate.decide.Goals as goal

pub returns-in-Some-clause-forced : goal.returns-in-Some-clause-forced
returns-in-Some-clause-forced c =
    let P : List Place → Type 0 = AreForced c.args.clauses.now.list in
    let place : Place = record { lit = c.new.result; reason = None } in
    subst P (sym c.push.ensures.places)
    (forced_push c.args.clauses.now.list c.args.trail.now.places place (λ n r. absurd (none-some n r)) c.requires.forced)

pub returns-in-None-clause-step : goal.returns-in-None-clause-step
returns-in-None-clause-step c =
    (c.requires.quiet, full_by_variables c.args.trail.now.vars c.args.trail.now.values c.in-None.ensures.full)
