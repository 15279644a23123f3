use Rattle.std.proofs.Common.{◌≡◌, ℕ, List, [], Some, slice_get, sym, subst, ap, arith}
use Rattle.std.specs.List.{All}
use Rattle.std.proofs.lemmas.List.Elements.{All-nil}
use Rattle.std.proofs.lemmas.Option.{none-some}
use Rattle.ja_base.specs.Clauses.{IsBelow}
use Rattle.sat_plain.specs.declared.place.Place.{Place}
use Rattle.sat_plain.specs.Trails.{Assigned, lits_of}
use Rattle.sat_watch.specs.Stores.{Stored, IsHeld, over}
use Rattle.sat_watch.specs.Fronts.{IsFront}
use Rattle.sat_watch.proofs.TendLemmas.{tended_new}
use Rattle.sat_watch.proofs.watch.Watch.new.Goals as goal

held_none : (trail : Assigned) (store : Stored) → trail.places ≡ [] → IsHeld (over trail store)
held_none trail store none = record {
  forced = record {
    at = λ p n place e r.
        let P : List Place → Type 0 = λ v. slice_get v p ≡ Some place in
        let f : slice_get [] p ≡ Some place = subst P none e in absurd (none-some place f);
  };
  live = λ p n place e r.
      let P : List Place → Type 0 = λ v. slice_get v p ≡ Some place in
      let f : slice_get [] p ≡ Some place = subst P none e in absurd (none-some place f);
}

pub invariant_of-result : goal.invariant_of-result
invariant_of-result c =
    let trail : Assigned = c.in_ok-trail.trail in
    let store : Stored = c.new-4.result in
    let vars : trail.vars ≡ c.args.vars = c.in_ok-trail.ensures.vars in
    let clauses : store.clauses ≡ [] = ap (λ (s : Stored). s.clauses) c.new-4.ensures in
    let live : store.live ≡ [] = ap (λ (s : Stored). s.live) c.new-4.ensures in
    let P : List (List ℕ) → Type 0 = All (IsBelow trail.vars) in
    let Q : ℕ → Type 0 = λ n. IsFront n store c.in_ok-watches.watches (lits_of trail.places) c.in_ok-front.front in (
      subst P (sym clauses) (All-nil (IsBelow trail.vars)),
      held_none trail store c.in_ok-trail.ensures.places,
      tended_new trail.vars store (lits_of trail.places) c.in_ok-watches.watches c.in_ok-front.front live clauses
          (let e = c.in_ok-watches.ensures in omega (arith, e, vars))
          (subst Q (sym vars) (c.in_ok-front.ensures store c.in_ok-watches.watches (lits_of trail.places))),
    )
