use Rattle.std.proofs.Common.{◌≡◌, ℕ, Bool, true, List, Some, inl, inr, sym, subst, ◌∙◌, ap}
use Rattle.std.specs.List.{Contains}
use Rattle.std.proofs.lemmas.Bool.Decides.{eqb_tells}
use Rattle.std.proofs.lemmas.List.Elements.{Contains-push}
use Rattle.std.proofs.lemmas.Option.{same_Some}
use Rattle.ja_base.specs.Literals.{bit, negated}
use Rattle.ja_base.specs.Trails.{IsForcedBy}
use Rattle.sat_plain.specs.declared.place.Place.{Place}
use Rattle.sat_plain.specs.Trails.{lits_of}
use Rattle.sat_plain.proofs.PlaceLemmas.{lits_push}
use Rattle.sat_watch.specs.Stores.{IsThere}
use Rattle.sat_watch.proofs.HeldLemmas.{held_push}
use Rattle.sat_watch.proofs.StepLemmas.{lit_below}
use Rattle.sat_watch.proofs.visit.force.Goals as goal

pub returns-then-is_on-clause-conflict : goal.returns-then-is_on-clause-conflict
returns-then-is_on-clause-conflict c =
    let values : List Bool = c.args.trail.now.values in
    let clause : List ℕ = c.clause-clause.result.now in
    let lit : ℕ = c.args.lit in
    let there : IsThere c.args.store.now c.args.slot clause = record { live = c.requires.live; is = c.clause-clause.ensures } in
    let P : List Bool → Type 0 = λ v. bit v c.not.result ≡ true in
    let Q : ℕ → Type 0 = λ n. bit values n ≡ true in
    let wrong : bit values (negated lit) ≡ true =
    subst Q c.not.ensures (subst P c.values.ensures.value (sym c.is_on.ensures ∙ c.if-is_on.true)) in
    record {
      clause = clause;
      there = there;
      wrong = record {
        each = λ m has.
            let is = c.values.ensures.is in
            is.only (negated m) (elim (eqb_tells m lit) [
              | inl same ↦ ap (λ n. bit values (negated n)) same.1 ∙ wrong
              | inr other ↦ c.requires.others clause m there has other.1
            ]);
      };
    }

pub push-requires-clause-below : goal.push-requires-clause-below
push-requires-clause-below c =
    let clause : List ℕ = c.clause-clause.result.now in
    let there : IsThere c.args.store.now c.args.slot clause = record { live = c.requires.live; is = c.clause-clause.ensures } in
    lit_below c.args.trail.now.vars c.args.store.now.clauses c.args.slot clause c.args.lit c.requires.below c.clause-clause.ensures
    (c.requires.has clause there)

pub returns-clause-held : goal.returns-clause-held
returns-clause-held c =
    let clause : List ℕ = c.clause-clause.result.now in
    let lit : ℕ = c.args.lit in
    let at : ℕ = c.args.slot in
    let there : IsThere c.args.store.now at clause = record { live = c.requires.live; is = c.clause-clause.ensures } in
    let is = c.values.ensures.is in
    let by : IsForcedBy c.args.store.now.clauses (lits_of c.args.trail.now.places) lit at =
    record {
      clause = clause;
      is = c.clause-clause.ensures;
      reason = record {
        has = c.requires.has clause there;
        others = λ m has off. is.only (negated m) (c.requires.others clause m there has off);
      };
    } in
    let place : Place = record { lit = lit; reason = Some at } in
    let P : ℕ → Type 0 = IsForcedBy c.args.store.now.clauses (lits_of c.args.trail.now.places) lit in
    let Q : ℕ → Type 0 = λ n. bit c.args.store.now.live n ≡ true in
    held_push c.args.store.now c.args.trail.now c.push.new.self place c.requires.held c.push.ensures.places
    (λ n r. subst P (same_Some at n r) by) (λ n r. subst Q (same_Some at n r) c.requires.live)

pub returns-clause-forced : goal.returns-clause-forced
returns-clause-forced c =
    let place : Place = record { lit = c.args.lit; reason = Some c.args.slot } in
    let P : List ℕ → Type 0 = λ v. Contains v c.args.lit in
    subst P (sym (ap lits_of c.push.ensures.places ∙ lits_push c.args.trail.now.places place))
    (Contains-push (lits_of c.args.trail.now.places) c.args.lit)
