use Rattle.std.proofs.Common.{◌≡◌, ℕ, ◌<◌, List, [], ◌∷◌, ◌++◌, length, take, drop, Some, slice_get, refl, sym, subst, ◌∙◌, ap, arith, append-nil}
use Rattle.std.specs.List.{Contains}
use Rattle.std.proofs.lemmas.List.Elements.{All-contains}
use Rattle.std.proofs.lemmas.Option.{slice_get_within}
use Rattle.ja_base.specs.Literals.{variable, negated}
use Rattle.ja_base.proofs.LiteralLemmas.{variable_negated}
use Rattle.ja_base.specs.Trails.{IsReason, IsTrail}
use Rattle.sat_plain.specs.declared.place.Place.{Place}
use Rattle.sat_plain.specs.Trails.{Assigned, IsAssigned, lits_of}
use Rattle.sat_plain.proofs.Members.{dropped_at}
use Rattle.sat_plain.proofs.PlaceLemmas.{lits_take, lits_length}
use Rattle.sat_watch.specs.Stores.{Stored}
use Rattle.sat_watch.specs.Steps.{IsForcedOn}
use Rattle.sat_cdcl.specs.Files.{places_of, list_of}
use Rattle.sat_cdcl.proofs.SearchLemmas.{unset_back, root_back, further_back, retreated_on}
use Rattle.sat_cdcl.proofs.backtrack.backjump.Goals as goal

-- a literal at a later place is over the variables
below_back : (trail : Assigned) (q l : ℕ) → IsAssigned trail → Contains (drop q (lits_of trail.places)) (negated l)
    → variable l < trail.vars
below_back trail q l is above =
    let lits : List ℕ = lits_of trail.places in
    let r = dropped_at lits q (negated l) above in
    let P : ℕ → Type 0 = λ n. n < trail.vars in
    subst P (variable_negated l) (All-contains (λ m. variable m < trail.vars) lits (negated l) is.below (r.0, r.2, r.3))

-- the places behind the decision are gone, and the literal came
came : (left places after : List Place) (to : ℕ) (x : Place) → left ≡ take to places → IsForcedOn (left ++ x ∷ []) after
    → IsForcedOn (take to places ++ x ∷ []) after
came left places after to x e h = let P : List Place → Type 0 = λ v. IsForcedOn (v ++ x ∷ []) after in subst P e h

pub force-requires-clause-below : goal.force-requires-clause-below
force-requires-clause-below c =
    let trail : Assigned = c.args.db.now.watched.trail in
    let is : IsAssigned trail = subst IsAssigned c.trail.ensures.value c.release_all.ensures.is in
    let small = below_back trail c.args.point.back c.args.point.lit is c.requires.asserted.asserting.above in
    omega (arith, small, c.undo.ensures.vars)

pub force-requires-clause-unset : goal.force-requires-clause-unset
force-requires-clause-unset c =
    let trail : Assigned = c.args.db.now.watched.trail in
    let is : IsAssigned trail = subst IsAssigned c.trail.ensures.value c.release_all.ensures.is in
    unset_back c.undo.new.self.watched.trail.vars c.undo.new.self.watched.trail.values trail.places (places_of c.undo.new.self)
    c.args.point.back c.args.point.lit c.undo.ensures.is c.undo.ensures.places is.apart c.requires.asserted.asserting.above

pub force-requires-clause-forced : goal.force-requires-clause-forced
force-requires-clause-forced c =
    let h = c.requires.asserted in
    let places : List Place = places_of c.args.db.now in
    let back : ℕ = c.args.point.back in
    let P : List ℕ → Type 0 = λ v. IsReason v c.args.point.lit h.clause in
    record {
      clause = h.clause;
      is = ap (λ (s : Stored). slice_get s.clauses c.args.slot) c.undo.ensures.store ∙ h.there.is;
      reason = subst P (sym (ap lits_of c.undo.ensures.places ∙ lits_take back places)) h.asserting.reason;
    }

pub returns-clause-kept : goal.returns-clause-kept
returns-clause-kept c =
    let places : List Place = places_of c.args.db.now in
    let back : ℕ = c.args.point.back in
    let x : Place = record { lit = c.args.point.lit; reason = Some c.args.slot } in
    let h = came (places_of c.undo.new.self) places (places_of c.force.new.self) back x c.undo.ensures.places
    c.force.ensures.places in
    record {
      vars = c.force.ensures.vars ∙ c.undo.ensures.vars;
      root = root_back places (places_of c.force.new.self) x back h c.requires.asserted.asserting.decided;
      more_slots = [];
      slots = c.force.ensures.slots ∙ c.undo.ensures.slots ∙ sym (append-nil c.args.db.now.slots);
      more = [];
      list = c.force.ensures.list ∙ c.undo.ensures.list ∙ sym (append-nil (list_of c.args.db.now));
    }

pub returns-clause-further : goal.returns-clause-further
returns-clause-further c =
    let trail : Assigned = c.args.db.now.watched.trail in
    let is : IsAssigned trail = subst IsAssigned c.trail.ensures.value c.release_all.ensures.is in
    let back : ℕ = c.args.point.back in
    let x : Place = record { lit = c.args.point.lit; reason = Some c.args.slot } in
    let new : Assigned = c.force.new.self.watched.trail in
    let h = came (places_of c.undo.new.self) trail.places new.places back x c.undo.ensures.places c.force.ensures.places in
    let vars : new.vars ≡ trail.vars = c.force.ensures.vars ∙ c.undo.ensures.vars in
    let P : ℕ → Type 0 = λ n. IsTrail n new.values (lits_of new.places) in
    further_back trail.vars new.values trail.places new.places x back (subst P vars c.force.ensures.is)
    (let s = is.short in omega (arith, s, lits_length trail.places)) h c.requires.asserted.asserting.decided refl

pub returns-clause-under_way : goal.returns-clause-under_way
returns-clause-under_way c = λ under old.
    let places : List Place = places_of c.args.db.now in
    let back : ℕ = c.args.point.back in
    let x : Place = record { lit = c.args.point.lit; reason = Some c.args.slot } in
    let decided = c.requires.asserted.asserting.decided in
    let within : back < length places = slice_get_within places back decided.place decided.is in
    let h = came (places_of c.undo.new.self) places (places_of c.force.new.self) back x c.undo.ensures.places
    c.force.ensures.places in
    retreated_on under places (places_of c.force.new.self) x back c.args.slot c.args.query.now.free c.retreat.new.self.free
    c.args.query.now.cursor c.retreat.new.self.cursor h refl (omega (arith, within)) c.retreat.ensures.retreats old
