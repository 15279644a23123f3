use Rattle.std.proofs.Common.{◌≡◌, ℕ, ◌+◌, List, length, take, sym, subst, ◌∙◌, ap, arith}
use Rattle.std.proofs.lemmas.Option.{same_Some}
use Rattle.ja_base.specs.Trails.{IsReason}
use Rattle.sat_plain.specs.declared.place.Place.{Place}
use Rattle.sat_plain.specs.Trails.{lits_of}
use Rattle.sat_plain.proofs.PlaceLemmas.{lits_at}
use Rattle.sat_cdcl.specs.Files.{list_of, places_of}
use Rattle.sat_cdcl.proofs.PointLemmas.{within_marks, taken_same_at, taken_same_less}
use Rattle.sat_cdcl.proofs.analyze.resolve.Goals as goal

pub resolve-requires-clause-lit : goal.resolve-requires-clause-lit
resolve-requires-clause-lit c =
    within_marks c.args.db.now.watched.trail.vars (length c.args.derivation.now.marks) c.args.db.now.watched.trail.values
    (places_of c.args.db.now) c.args.at c.place-lit.result c.place-lit.ensures.is c.place-lit.ensures.value c.requires.width

pub returns-clause-goes : goal.returns-clause-goes
returns-clause-goes c = λ trail same walked h.
    let vars : ℕ = c.args.db.now.watched.trail.vars in
    let list : List (List ℕ) = list_of c.args.db.now in
    let lits : List ℕ = lits_of (places_of c.args.db.now) in
    let at : ℕ = c.args.at in
    let place : Place = c.place-lit.result in
    let clause : List ℕ = c.clause-clause.result.now in
    let old = c.requires.reason in
    let is : old.place ≡ place = same_Some old.place place (sym old.is ∙ c.place-lit.ensures.value) in
    let by = c.place-lit.ensures.held.forced.at at c.args.slot place c.place-lit.ensures.value
    (ap (λ (p : Place). p.reason) (sym is) ∙ old.reason) in
    let one : by.clause ≡ clause = same_Some by.clause clause (sym by.is ∙ c.clause-clause.ensures.there.is) in
    let P : List ℕ → Type 0 = IsReason (take at lits) place.lit in
    let Q : List ℕ → Type 0 = λ v. IsReason v place.lit clause in
    let reason = subst Q (sym (taken_same_less trail lits at (at + 1) (omega arith) same)) (subst P one by.reason) in
    let there = taken_same_at trail lits at place.lit same (lits_at (places_of c.args.db.now) at place c.place-lit.ensures.value) in
    c.in_ok-resolve.ensures.resolves vars list trail at there (c.number-number.ensures clause c.clause-clause.ensures.there) reason walked h
