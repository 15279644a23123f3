use Rattle.std.proofs.Common.{◌≡◌, ℕ, Bool, List, [], get_or, Some, slice_get, refl, sym, subst, ◌∙◌, ap}
use Rattle.std.proofs.lemmas.Option.{get_or_from_slice_get, same_Some}
use Rattle.ja_base.specs.Trails.{open_lits, IsForcedBy}
use Rattle.refute_check.specs.Lines.{found_of}
use Rattle.refute_check.specs.declared.found.Found.{Found}
use Rattle.sat_plain.specs.declared.place.Place.{Place}
use Rattle.sat_plain.specs.Trails.{AreForced, lits_of}
use Rattle.sat_plain.proofs.PlaceLemmas.{IsFoundForced, found_forces, forced_push, reason_of, all_false}
use Rattle.sat_plain.proofs.propagate.examine.Goals as goal

-- what a scan of the clause of a place of the list says
scanned : (values row : List Bool) (list : List (List ℕ)) (at : ℕ) (clause lits : List ℕ) (found : Found)
    → found ≡ found_of row (open_lits row lits) → row ≡ values → lits ≡ clause → slice_get list at ≡ Some clause
    → found ≡ found_of values (open_lits values (get_or list at []))
scanned values row list at clause lits found e r l there =
    e ∙ ap (λ v. found_of v (open_lits v lits)) r ∙ ap (λ v. found_of values (open_lits values v)) l
    ∙ ap (λ v. found_of values (open_lits values v)) (sym (get_or_from_slice_get list at clause [] there))

pub push-requires-clause-free : goal.push-requires-clause-free
push-requires-clause-free c =
    let values : List Bool = c.args.trail.now.values in
    let clause : List ℕ = get_or c.args.clauses.now.list c.args.at [] in
    let e = scanned values c.values.result.now c.args.clauses.now.list c.args.at c.clause.result.now c.lits.result.now
    c.scan.result c.scan.ensures.value c.values.ensures.value c.lits.ensures.value c.clause.ensures in
    let f : IsFoundForced values clause c.in-Forces.lit =
    found_forces values clause c.in-Forces.lit (sym e ∙ c.in-Forces.is) in
    f.free

pub returns-in-Forces-clause-value : goal.returns-in-Forces-clause-value
returns-in-Forces-clause-value c =
    sym c.in-Forces.is
    ∙ scanned c.args.trail.now.values c.values.result.now c.args.clauses.now.list c.args.at c.clause.result.now
    c.lits.result.now c.scan.result c.scan.ensures.value c.values.ensures.value c.lits.ensures.value c.clause.ensures

pub returns-in-False-clause-value : goal.returns-in-False-clause-value
returns-in-False-clause-value c =
    sym c.in-False.is
    ∙ scanned c.args.trail.now.values c.values.result.now c.args.clauses.now.list c.args.at c.clause.result.now
    c.lits.result.now c.scan.result c.scan.ensures.value c.values.ensures.value c.lits.ensures.value c.clause.ensures

pub returns-in-Other-clause-value : goal.returns-in-Other-clause-value
returns-in-Other-clause-value c =
    sym c.in-Other.is
    ∙ scanned c.args.trail.now.values c.values.result.now c.args.clauses.now.list c.args.at c.clause.result.now
    c.lits.result.now c.scan.result c.scan.ensures.value c.values.ensures.value c.lits.ensures.value c.clause.ensures

pub returns-in-Forces-clause-forced : goal.returns-in-Forces-clause-forced
returns-in-Forces-clause-forced c =
    let list : List (List ℕ) = c.args.clauses.now.list in
    let clause : List ℕ = get_or list c.args.at [] in
    let values : List Bool = c.args.trail.now.values in
    let places : List Place = c.args.trail.now.places in
    let l : ℕ = c.in-Forces.lit in
    let e = scanned values c.values.result.now list c.args.at c.clause.result.now c.lits.result.now c.scan.result
    c.scan.ensures.value c.values.ensures.value c.lits.ensures.value c.clause.ensures in
    let f : IsFoundForced values clause l = found_forces values clause l (sym e ∙ c.in-Forces.is) in
    let here : slice_get list c.args.at ≡ Some clause =
    c.clause.ensures ∙ ap Some (sym (get_or_from_slice_get list c.args.at c.clause.result.now [] c.clause.ensures)) in
    let by : IsForcedBy list (lits_of places) l c.args.at =
    record {
      clause = clause;
      is = here;
      reason = reason_of c.args.trail.now.vars values places clause l c.values.ensures.is f;
    } in
    let place : Place = record { lit = l; reason = Some c.args.at } in
    let P : List Place → Type 0 = AreForced list in
    subst P (sym c.push.ensures.places) (forced_push list places place
    (λ n r. let Q : ℕ → Type 0 = IsForcedBy list (lits_of places) l in subst Q (same_Some c.args.at n r) by) c.requires.forced)

pub returns-in-False-clause-step : goal.returns-in-False-clause-step
returns-in-False-clause-step c =
    let list : List (List ℕ) = c.args.clauses.now.list in
    let clause : List ℕ = get_or list c.args.at [] in
    let values : List Bool = c.args.trail.now.values in
    let e = scanned values c.values.result.now list c.args.at c.clause.result.now c.lits.result.now c.scan.result
    c.scan.ensures.value c.values.ensures.value c.lits.ensures.value c.clause.ensures in
    let here : slice_get list c.args.at ≡ Some clause =
    c.clause.ensures ∙ ap Some (sym (get_or_from_slice_get list c.args.at c.clause.result.now [] c.clause.ensures)) in (
      refl,
      record {
        clause = clause;
        is = here;
        wrong = all_false c.args.trail.now.vars values c.args.trail.now.places clause c.values.ensures.is (sym e ∙ c.in-False.is);
      },
    )
