use Rattle.std.proofs.Common.{◌≡◌, ℕ, List, length, inl, inr, sym, subst, ◌∙◌, ap, arith}
use Rattle.std.specs.List.{Contains}
use Rattle.std.proofs.lemmas.Bool.{OnTrue_at}
use Rattle.std.proofs.lemmas.List.Elements.{Contains-push_cases}
use Rattle.ja_base.specs.Literals.{negated}
use Rattle.ja_base.proofs.LiteralLemmas.{negated_twice}
use Rattle.sat_plain.specs.declared.place.Place.{Place}
use Rattle.sat_plain.specs.Trails.{lits_of}
use Rattle.sat_plain.proofs.PlaceLemmas.{lits_at}
use Rattle.sat_cdcl.specs.Files.{list_of, places_of}
use Rattle.sat_cdcl.proofs.PointLemmas.{within_marks, taken_same_at}
use Rattle.sat_cdcl.proofs.conclude.step.Goals as goal

pub skips-requires : goal.skips-requires
skips-requires c =
    let w =
    within_marks c.args.db.now.watched.trail.vars (length c.args.derivation.now.marks) c.args.db.now.watched.trail.values
    (places_of c.args.db.now) c.args.at c.place-place.result c.place-place.ensures.is c.place-place.ensures.value
    c.requires.width in
    w.0

pub returns-then-skips-clause-goes : goal.returns-then-skips-clause-goes
returns-then-skips-clause-goes c = λ trail same walked h.
    let lits : List ℕ = lits_of (places_of c.args.db.now) in
    let place : Place = c.place-place.result in
    OnTrue_at c.if-skips.true c.skips.ensures.skips c.args.db.now.watched.trail.vars (list_of c.args.db.now) trail c.args.at
    (taken_same_at trail lits c.args.at place.lit same
    (lits_at (places_of c.args.db.now) c.args.at place c.place-place.ensures.value)) h

pub returns-in_ok-keep-in-None-clause-goes : goal.returns-in_ok-keep-in-None-clause-goes
returns-in_ok-keep-in-None-clause-goes c = λ trail same walked h.
    let lits : List ℕ = lits_of (places_of c.args.db.now) in
    let place : Place = c.place-place.result in
    c.in_ok-keep-in-None.ensures.keeps c.args.db.now.watched.trail.vars (list_of c.args.db.now) trail c.args.at
    (taken_same_at trail lits c.args.at place.lit same
    (lits_at (places_of c.args.db.now) c.args.at place c.place-place.ensures.value)) h

pub returns-in_ok-keep-in-None-clause-kept : goal.returns-in_ok-keep-in-None-clause-kept
returns-in_ok-keep-in-None-clause-kept c = λ under decides old m has.
    let place : Place = c.place-place.result in
    let M : List ℕ → Type 0 = λ v. Contains v m in
    elim (Contains-push_cases c.args.derivation.now.lits (negated place.lit) m
    (subst M c.in_ok-keep-in-None.ensures.lits has)) [
      | inl k ↦ old m k
      | inr new ↦
          let same : place.lit ≡ negated m = sym (negated_twice place.lit) ∙ ap negated new in
          let P : ℕ → Type 0 = Contains under in
          subst P same (decides c.args.at place (omega arith) c.place-place.ensures.value c.in-None.is)
    ]
