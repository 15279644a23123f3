use Rattle.std.proofs.Common.{◌≡◌, ℕ, List, Some, None, unwrap_or, length, refl, ◌∙◌, ap}
use Rattle.sat_plain.specs.declared.place.Place.{Place}
use Rattle.sat_plain.specs.Trails.{Assigned}
use Rattle.sat_cdcl.specs.declared.query.Query.{Query}
use Rattle.sat_cdcl.specs.Files.{places_of}
use Rattle.sat_cdcl.proofs.FileLemmas.{kept_same}
use Rattle.sat_cdcl.proofs.SearchLemmas.{kept_on, onward_of, decided_on}
use Rattle.sat_cdcl.proofs.advance.decide.Goals as goal

pub returns-in-Some-clause-kept : goal.returns-in-Some-clause-kept
returns-in-Some-clause-kept c =
    let x : Place = record { lit = c.in-Some.lit; reason = None } in
    kept_on c.args.db.now c.assign.new.self x c.assign.ensures.vars c.assign.ensures.places c.assign.ensures.slots
    c.assign.ensures.list

pub returns-in-Some-clause-advanced : goal.returns-in-Some-clause-advanced
returns-in-Some-clause-advanced c =
    let x : Place = record { lit = c.in-Some.lit; reason = None } in
    let under : List ℕ = c.args.under.now in
    let old : Query = c.args.query.now in
    let n : ℕ = c.unwrap_or-free.result in
    let next : Query = record { lines = old.lines; free = Some n; cursor = length under } in
    let len : c.len.result ≡ length (places_of c.args.db.now) =
    c.len.ensures.value ∙ ap (λ (t : Assigned). length t.places) c.trail-in-Some.ensures.value in
    onward_of under c.args.db.now c.assign.new.self old next x c.assign.result c.assign.ensures.vars c.assign.ensures.places
    c.assign.ensures.is c.assign.ensures.list refl c.assign.ensures.step
    (decided_on under (places_of c.args.db.now) (places_of c.assign.new.self) c.in-Some.lit old.free n c.assign.ensures.places
    (c.unwrap_or-free.ensures ∙ ap (unwrap_or old.free) len) c.requires.under_way.decisions c.requires.assumed)

pub returns-in-None-clause-kept : goal.returns-in-None-clause-kept
returns-in-None-clause-kept c = kept_same c.args.db.now c.args.db.now refl
