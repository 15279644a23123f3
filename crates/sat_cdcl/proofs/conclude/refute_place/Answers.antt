use Rattle.std.proofs.Common.{◌≡◌, ℕ, ◌+◌, ◌*◌, List, [], ◌∷◌, ◌++◌, false, length, take, Some, slice_get, sym, subst, ◌∙◌, ap, arith}
use Rattle.std.specs.List.{Contains}
use Rattle.std.proofs.lemmas.List.{length-replicate, length-take, length_push, take_at}
use Rattle.std.proofs.lemmas.Option.{same_Some}
use Rattle.ja_base.specs.Literals.{bit, negated}
use Rattle.ja_base.specs.Trails.{IsReason}
use Rattle.ja_base.proofs.LiteralLemmas.{negated_twice}
use Rattle.refute_check.specs.Lines.{unknown, assumed}
use Rattle.sat_plain.specs.declared.place.Place.{Place}
use Rattle.sat_plain.specs.Trails.{lits_of}
use Rattle.sat_plain.specs.Derive.{IsDerived}
use Rattle.sat_plain.proofs.AssumedLemmas.{negated_is_assumed}
use Rattle.sat_plain.proofs.PlaceLemmas.{lits_at, lits_length}
use Rattle.sat_cdcl.specs.Files.{Filed, list_of, places_of}
use Rattle.sat_cdcl.specs.Walks.{HasReason}
use Rattle.sat_watch.specs.Stores.{IsHeld, IsThere}
use Rattle.sat_cdcl.proofs.FileLemmas.{last_is}
use Rattle.sat_cdcl.proofs.PointLemmas.{within_marks}
use Rattle.sat_cdcl.proofs.LowerLemmas.{only_one}
use Rattle.sat_cdcl.proofs.ConcludeLemmas.{turned_walked, turned_false}
use Rattle.sat_cdcl.proofs.conclude.refute_place.Goals as goal

-- the clause of the reason forces the literal of the place
reason_at : (filed : Filed) (at slot : ℕ) (place : Place) (clause : List ℕ) → HasReason (places_of filed) at slot
    → slice_get (places_of filed) at ≡ Some place → IsHeld filed.watched → IsThere filed.watched.store slot clause
    → IsReason (take at (lits_of (places_of filed))) place.lit clause
reason_at filed at slot place clause h e held there =
    let is : h.place ≡ place = same_Some h.place place (sym h.is ∙ e) in
    let by = held.forced.at at slot place e (ap (λ (p : Place). p.reason) (sym is) ∙ h.reason) in
    let P : List ℕ → Type 0 = IsReason (take at (lits_of (places_of filed))) place.lit in
    subst P (same_Some by.clause clause (sym by.is ∙ there.is)) by.reason

pub keep-requires : goal.keep-requires
keep-requires c =
    let vars : ℕ = c.args.db.now.watched.trail.vars in
    let place : Place = c.place-lit.result in
    let clause : List ℕ = c.clause-clause.result.now in
    let reason = reason_at c.args.db.now c.args.at c.args.slot place clause c.requires.reason c.place-lit.ensures.value
    c.place-lit.ensures.held c.clause-clause.ensures.there in
    let wide : length (unknown vars) ≡ 2 * vars = length-replicate (2 * vars) false in
    let w =
    within_marks vars (length (unknown vars)) c.args.db.now.watched.trail.values (places_of c.args.db.now) c.args.at place
    c.place-lit.ensures.is c.place-lit.ensures.value wide in
    ap (bit c.in_ok-derivation.derivation.marks) c.not.ensures
    ∙ ap (λ v. bit v (negated place.lit)) (c.in_ok-derivation.ensures.marks ∙ ap (λ n. assumed clause (unknown n)) c.vars.ensures)
    ∙ negated_is_assumed clause (unknown vars) place.lit reason.has w.1

pub returns-clause-accepted : goal.returns-clause-accepted
returns-clause-accepted c =
    let vars : ℕ = c.args.db.now.watched.trail.vars in
    let list : List (List ℕ) = list_of c.args.db.now in
    let lits : List ℕ = lits_of (places_of c.args.db.now) in
    let at : ℕ = c.args.at in
    let place : Place = c.place-lit.result in
    let clause : List ℕ = c.clause-clause.result.now in
    let reason = reason_at c.args.db.now at c.args.slot place clause c.requires.reason c.place-lit.ensures.value
    c.place-lit.ensures.held c.clause-clause.ensures.there in
    let trail : List ℕ = take at lits ++ negated place.lit ∷ [] in
    let wide : length (take at lits) ≡ at =
    omega (arith, length-take at lits, lits_length (places_of c.args.db.now), c.requires.at) in
    let whole : length trail ≡ at + 1 = omega (arith, length_push (take at lits) (negated place.lit), wide) in
    let there : slice_get trail at ≡ Some c.not.result =
    ap (slice_get trail) (sym wide) ∙ last_is (take at lits) (negated place.lit) ∙ ap Some (sym c.not.ensures) in
    let V : ℕ → Type 0 = λ n. IsDerived n list trail (length trail) c.in_ok-derivation.derivation in
    let P : ℕ → Type 0 = λ n. IsDerived vars list trail n c.in_ok-derivation.derivation in
    let first : IsDerived vars list trail (at + 1) c.in_ok-derivation.derivation =
    subst P whole (subst V c.vars.ensures (c.in_ok-derivation.ensures.begins list trail
    (c.number-number.ensures clause c.clause-clause.ensures.there) (turned_false (take at lits) place.lit clause reason))) in
    c.in_ok-line.ensures.accepted trail (take_at (take at lits) (negated place.lit ∷ []) at wide)
    (turned_walked vars c.args.db.now.watched.trail.values (places_of c.args.db.now) at place c.place-lit.ensures.is
    c.place-lit.ensures.value)
    (c.in_ok-keep.ensures.keeps vars list trail at there first)

pub returns-clause-kept : goal.returns-clause-kept
returns-clause-kept c = λ under l there assumed decides m has.
    let place : Place = c.place-lit.result in
    let same : place.lit ≡ l =
    same_Some place.lit l (sym (lits_at (places_of c.args.db.now) c.args.at place c.place-lit.ensures.value) ∙ there) in
    let one : c.keep.new.self.lits ≡ place.lit ∷ [] =
    c.in_ok-keep.ensures.lits ∙ ap (λ v. v ++ negated c.not.result ∷ []) c.in_ok-derivation.ensures.lits
    ∙ ap (λ k. k ∷ []) (ap negated c.not.ensures ∙ negated_twice place.lit) in
    c.in_ok-line.ensures.kept under decides (λ k h.
    let P : ℕ → Type 0 = λ j. Contains under (negated j) in
    subst P (sym (only_one place.lit k c.keep.new.self.lits one h ∙ same)) assumed) m has
