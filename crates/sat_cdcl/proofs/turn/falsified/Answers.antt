use Rattle.std.proofs.Common.{◌≡◌, refl, sym, subst, ◌∙◌}
use Rattle.std.specs.List.{Contains}
use Rattle.std.proofs.lemmas.Option.{same_Some, slice_get_within}
use Rattle.ja_base.specs.Literals.{negated}
use Rattle.sat_plain.specs.declared.place.Place.{Place}
use Rattle.sat_cdcl.specs.Files.{places_of}
use Rattle.sat_cdcl.proofs.FileLemmas.{kept_same}
use Rattle.sat_cdcl.proofs.SearchLemmas.{both_of}
use Rattle.sat_cdcl.proofs.turn.falsified.Goals as goal

pub returns-in-Ok-clause-kept : goal.returns-in-Ok-clause-kept
returns-in-Ok-clause-kept g c = kept_same c.args.db.now c.args.db.now refl

pub returns-in-Ok-clause-turned : goal.returns-in-Ok-clause-turned
returns-in-Ok-clause-turned g c = λ under h.
    let place : Place = c.place-place.result in
    let same : h.place ≡ place = same_Some h.place place (sym h.is ∙ c.place-place.ensures.value) in
    let P : Place → Type 0 = λ k. Contains under (negated k.lit) in
    both_of under c.args.db.now c.args.query.now place.lit c.in-Ok.core c.in-Ok.ensures
    (h.decisions c.args.at place (slice_get_within (places_of c.args.db.now) c.args.at place c.place-place.ensures.value)
    c.place-place.ensures.value c.in-None.is)
    (subst P same h.assumed)

pub returns-in-Err-clause-kept : goal.returns-in-Err-clause-kept
returns-in-Err-clause-kept g c = kept_same c.args.db.now c.args.db.now refl

pub returns-in-Spent-clause-kept : goal.returns-in-Spent-clause-kept
returns-in-Spent-clause-kept g c = kept_same c.args.db.now c.args.db.now refl

pub returns-in-Stopped-clause-kept : goal.returns-in-Stopped-clause-kept
returns-in-Stopped-clause-kept g c = kept_same c.args.db.now c.args.db.now refl
