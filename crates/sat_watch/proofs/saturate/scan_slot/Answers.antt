use Rattle.std.proofs.Common.{◌≡◌, ℕ, Bool, true, List, [], ◌∷◌, ◌++◌, Some, refl, ap, sym, subst, ◌∙◌}
use Rattle.std.proofs.lemmas.Option.{same_Some}
use Rattle.ja_base.specs.Literals.{bit}
use Rattle.ja_base.specs.Trails.{IsForcedBy}
use Rattle.sat_plain.specs.declared.place.Place.{Place}
use Rattle.sat_plain.specs.Trails.{lits_of}
use Rattle.sat_plain.proofs.PlaceLemmas.{lits_push, IsFoundForced, found_forces, reason_of, all_false}
use Rattle.sat_watch.proofs.HeldLemmas.{held_push}
use Rattle.sat_watch.proofs.StepLemmas.{scanned, still}
use Rattle.sat_watch.specs.Fronts.{IsStillUnder}
use Rattle.sat_watch.proofs.StillLemmas.{still_forced, still_under}
use Rattle.std.specs.List.{Contains}
use Rattle.std.proofs.lemmas.Bool.{both_ways}
use Rattle.std.proofs.lemmas.List.Elements.{Contains-push}
use Rattle.sat_plain.proofs.FinishLemmas.{one_sign}
use Rattle.sat_watch.proofs.saturate.scan_slot.Goals as goal

pub push-requires-clause-free : goal.push-requires-clause-free
push-requires-clause-free c =
    let values : List Bool = c.args.trail.now.values in
    let clause : List ℕ = c.clause.result.now in
    let e = scanned values c.values-values.result.now clause c.lits.result.now c.scan.result c.scan.ensures.value
    c.values-values.ensures.value c.lits.ensures.value in
    let f : IsFoundForced values clause c.in-Forces.lit =
    found_forces values clause c.in-Forces.lit (sym e ∙ c.in-Forces.is) in
    f.free

pub returns-in-Forces-clause-held : goal.returns-in-Forces-clause-held
returns-in-Forces-clause-held c =
    let values : List Bool = c.args.trail.now.values in
    let clause : List ℕ = c.clause.result.now in
    let places : List Place = c.args.trail.now.places in
    let clauses : List (List ℕ) = c.args.store.now.clauses in
    let l : ℕ = c.in-Forces.lit in
    let at : ℕ = c.args.at in
    let e = scanned values c.values-values.result.now clause c.lits.result.now c.scan.result c.scan.ensures.value
    c.values-values.ensures.value c.lits.ensures.value in
    let f : IsFoundForced values clause l = found_forces values clause l (sym e ∙ c.in-Forces.is) in
    let by : IsForcedBy clauses (lits_of places) l at =
    record {
      clause = clause;
      is = c.clause.ensures;
      reason = reason_of c.args.trail.now.vars values places clause l c.values-values.ensures.is f;
    } in
    let live : bit c.args.store.now.live at ≡ true = sym c.is_live.ensures ∙ c.if-not-is_live.false in
    let place : Place = record { lit = l; reason = Some at } in
    let P : ℕ → Type 0 = IsForcedBy clauses (lits_of places) l in
    let Q : ℕ → Type 0 = λ n. bit c.args.store.now.live n ≡ true in
    held_push c.args.store.now c.args.trail.now c.push.new.self place c.requires.held c.push.ensures.places
    (λ n r. subst P (same_Some at n r) by) (λ n r. subst Q (same_Some at n r) live)

pub returns-in-False-clause-step : goal.returns-in-False-clause-step
returns-in-False-clause-step c =
    let values : List Bool = c.args.trail.now.values in
    let clause : List ℕ = c.clause.result.now in
    let e = scanned values c.values-values.result.now clause c.lits.result.now c.scan.result c.scan.ensures.value
    c.values-values.ensures.value c.lits.ensures.value in
    record {
      clause = clause;
      there = record {
        live = sym c.is_live.ensures ∙ c.if-not-is_live.false;
        is = c.clause.ensures;
      };
      wrong =
          all_false c.args.trail.now.vars values c.args.trail.now.places clause c.values-values.ensures.is
          (sym e ∙ c.in-False.is);
    }

pub returns-then-not-is_live-clause-still : goal.returns-then-not-is_live-clause-still
returns-then-not-is_live-clause-still c = λ clause there _.
    absurd (both_ways (bit c.args.store.now.live c.args.at) (sym c.is_live.ensures ∙ c.if-not-is_live.true) there.live)

pub returns-in-Forces-clause-still : goal.returns-in-Forces-clause-still
returns-in-Forces-clause-still c = λ clause there _.
    let values : List Bool = c.args.trail.now.values in
    let found : List ℕ = c.clause.result.now in
    let places : List Place = c.args.trail.now.places in
    let l : ℕ = c.in-Forces.lit in
    let e = scanned values c.values-values.result.now found c.lits.result.now c.scan.result c.scan.ensures.value
    c.values-values.ensures.value c.lits.ensures.value in
    let f : IsFoundForced values found l = found_forces values found l (sym e ∙ c.in-Forces.is) in
    let same : found ≡ clause = same_Some found clause (sym c.clause.ensures ∙ there.is) in
    let P : List ℕ → Type 0 = λ v. Contains v l in
    let place : Place = record { lit = l; reason = Some c.args.at } in
    let lits : lits_of c.push.new.self.places ≡ lits_of places ++ l ∷ [] =
    ap lits_of c.push.ensures.places ∙ lits_push places place in
    let here : Contains (lits_of c.push.new.self.places) l = subst P (sym lits) (Contains-push (lits_of places) l) in
    let is = c.push.ensures.is in
    still_forced (lits_of c.push.new.self.places) clause l (subst P same f.has) here
    (one_sign (lits_of c.push.new.self.places) l is.apart here)

pub returns-in-False-clause-still : goal.returns-in-False-clause-still
returns-in-False-clause-still c = λ clause there off. absurd (off refl)

pub returns-in-Other-clause-still : goal.returns-in-Other-clause-still
returns-in-Other-clause-still c = λ clause there _.
    let values : List Bool = c.args.trail.now.values in
    let found : List ℕ = c.clause.result.now in
    let e = scanned values c.values-values.result.now found c.lits.result.now c.scan.result c.scan.ensures.value
    c.values-values.ensures.value c.lits.ensures.value in
    let same : found ≡ clause = same_Some found clause (sym c.clause.ensures ∙ there.is) in
    let P : List ℕ → Type 0 = IsStillUnder (lits_of c.args.trail.now.places) in
    subst P same (still_under c.args.trail.now.vars values (lits_of c.args.trail.now.places) found c.values-values.ensures.is
    (still values found (sym e ∙ c.in-Other.is)))
