use Rattle.std.proofs.Common.{◌≡◌, sym, subst, ◌∙◌}
use Rattle.std.specs.List.{Contains}
use Rattle.std.proofs.lemmas.Option.{same_Some, slice_get_within}
use Rattle.ja_base.specs.Literals.{negated}
use Rattle.sat_plain.specs.declared.place.Place.{Place}
use Rattle.sat_cdcl.specs.Files.{places_of}
use Rattle.sat_cdcl.proofs.QuestionLemmas.{closes_both}
use Rattle.sat_cdcl.proofs.probe_turn.falsified.Goals as goal

pub returns-in-Ok-clause-turned : goal.returns-in-Ok-clause-turned
returns-in-Ok-clause-turned g c = λ under among query h.
    let place : Place = c.place-place.result in
    let same : h.place ≡ place = same_Some h.place place (sym h.is ∙ c.place-place.ensures.value) in
    let P : Place → Type 0 = λ k. Contains under (negated k.lit) in
    closes_both under c.args.db.now query place.lit c.in-Ok.core c.in-Ok.ensures
    (h.decisions c.args.at place (slice_get_within (places_of c.args.db.now) c.args.at place c.place-place.ensures.value)
    c.place-place.ensures.value c.in-None.is)
    (subst P same h.assumed)
