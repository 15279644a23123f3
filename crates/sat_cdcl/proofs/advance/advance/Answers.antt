use Rattle.std.proofs.Common.{◌≡◌, ℕ, List, take, Some, None, slice_get, refl, sym, subst, ◌∙◌, ap}
use Rattle.std.specs.List.{All, Contains}
use Rattle.ja_base.specs.Literals.{negated}
use Rattle.ja_base.proofs.LiteralLemmas.{negated_twice}
use Rattle.sat_plain.specs.declared.place.Place.{Place}
use Rattle.sat_plain.specs.Trails.{Assigned, IsAssigned, lits_of}
use Rattle.sat_cdcl.specs.declared.query.Query.{Query}
use Rattle.sat_cdcl.specs.Files.{places_of}
use Rattle.sat_cdcl.proofs.FileLemmas.{kept_same}
use Rattle.sat_cdcl.proofs.SearchLemmas.{kept_on, onward_of, assumed_on, only_assumed, place_at}
use Rattle.sat_cdcl.proofs.advance.advance.Goals as goal

pub next_assumed-requires-clause-first : goal.next_assumed-requires-clause-first
next_assumed-requires-clause-first c =
    let P : Assigned → Type 0 = λ t. All (Contains (lits_of t.places)) (take c.args.query.now.cursor c.args.under.now) in
    subst P (sym c.trail.ensures.value) c.requires.under_way.first

pub decide-requires-clause-assumed : goal.decide-requires-clause-assumed
decide-requires-clause-assumed c =
    let P : Assigned → Type 0 = λ t. All (Contains (lits_of t.places)) c.args.under.now in
    subst P c.trail.ensures.value c.in-True.ensures.next

pub decide-requires-clause-under_way : goal.decide-requires-clause-under_way
decide-requires-clause-under_way c =
    let P : Assigned → Type 0 = λ t. All (Contains (lits_of t.places)) (take c.next_assumed.new.cursor c.args.under.now) in
    record { decisions = c.requires.under_way.decisions; first = subst P c.trail.ensures.value c.in-True.ensures.first }

pub returns-in-Open-clause-kept : goal.returns-in-Open-clause-kept
returns-in-Open-clause-kept c =
    let x : Place = record { lit = c.in-Open.lit; reason = None } in
    kept_on c.args.db.now c.assign.new.self x c.assign.ensures.vars c.assign.ensures.places c.assign.ensures.slots
    c.assign.ensures.list

pub returns-in-Open-clause-advanced : goal.returns-in-Open-clause-advanced
returns-in-Open-clause-advanced c =
    let x : Place = record { lit = c.in-Open.lit; reason = None } in
    let under : List ℕ = c.args.under.now in
    let old : Query = c.args.query.now in
    let cursor : ℕ = c.next_assumed.new.cursor in
    let next : Query = record { lines = old.lines; free = old.free; cursor = cursor } in
    let P : Assigned → Type 0 = λ t. All (Contains (lits_of t.places)) (take cursor under) in
    onward_of under c.args.db.now c.assign.new.self old next x c.assign.result c.assign.ensures.vars c.assign.ensures.places
    c.assign.ensures.is c.assign.ensures.list refl c.assign.ensures.step
    (assumed_on under (places_of c.args.db.now) (places_of c.assign.new.self) c.in-Open.lit old.free cursor
    c.assign.ensures.places c.in-Open.ensures.next.0 c.requires.under_way.decisions
    (subst P c.trail.ensures.value c.in-Open.ensures.first))

pub returns-in-False-clause-kept : goal.returns-in-False-clause-kept
returns-in-False-clause-kept c = kept_same c.args.db.now c.args.db.now refl

pub returns-in-False-clause-advanced : goal.returns-in-False-clause-advanced
returns-in-False-clause-advanced c =
    let places : List Place = places_of c.args.db.now in
    let lit : ℕ = c.in-False.lit in
    let A : Assigned → Type 0 = λ t. slice_get (lits_of t.places) c.place_of.result ≡ Some (negated lit) in
    let there : slice_get (lits_of places) c.place_of.result ≡ Some (negated lit) =
    subst A c.trail-in-False.ensures.value (c.place_of.ensures.at ∙ ap Some c.not.ensures) in
    let is = subst IsAssigned c.trail-in-False.ensures.value c.place_of.ensures.is in
    let P : Assigned → Type 0 = λ t. Contains (lits_of t.places) (negated lit) in
    let wrong = subst P c.trail.ensures.value c.in-False.ensures.next.1 in
    let r = place_at places c.place_of.result (negated lit) there in
    let Q : ℕ → Type 0 = Contains c.args.under.now in (
      refl,
      record {
        place = r.0;
        is = r.1;
        assumed = subst Q (sym (ap negated r.2 ∙ negated_twice lit)) c.in-False.ensures.next.0;
        decisions = only_assumed c.args.under.now c.args.db.now.watched.trail.values c.args.db.now.watched.trail.vars places lit
            c.args.query.now.free is c.in-False.ensures.next.0 wrong c.requires.under_way.decisions;
      },
    )
