use Rattle.std.proofs.Common.{◌≡◌, ℕ, Bool, true, false, List, sym, subst, ◌∙◌}
use Rattle.std.specs.List.{Contains}
use Rattle.std.proofs.lemmas.Bool.{both_ways}
use Rattle.std.proofs.lemmas.Option.{same_Some}
use Rattle.ja_base.specs.Literals.{bit, negated}
use Rattle.ja_base.specs.Trails.{IsTrail}
use Rattle.sat_plain.specs.Trails.{lits_of}
use Rattle.sat_watch.specs.Watching.{Watching, IsOther}
use Rattle.sat_watch.specs.Visits.{Moves}
use Rattle.sat_watch.proofs.SafeLemmas.{keeps_moves, passed_moves}
use Rattle.sat_watch.proofs.SweepLemmas.{left_in}
use Rattle.sat_watch.proofs.visit.visit_slot.Goals as goal

pub settle-requires-clause-has : goal.settle-requires-clause-has
settle-requires-clause-has c = λ clause there.
    let values : List Bool = c.args.trail.now.values in
    let lits : List ℕ = lits_of c.args.trail.now.places in
    let watches : Watching = c.args.watches.now in
    let other : ℕ = c.other_of-other.result in
    let o : IsOther watches c.args.slot c.args.lit other = c.other_of-other.ensures in
    let is : IsTrail c.args.trail.now.vars values lits = c.values-values.ensures.is in
    let V : List Bool → Type 0 = λ v. bit v other ≡ false in
    let unset : bit values other ≡ false = subst V c.values-values.ensures.value (sym c.is_on.ensures ∙ c.if-is_on.false) in
    let found : List ℕ = c.clause.result.now in
    let same : found ≡ clause = same_Some found clause (sym c.clause.ensures ∙ there.is) in
    left_in c.args.store.now c.args.trail.now.vars values lits watches c.args.slot c.args.lit other clause is c.requires.based o
    there unset
    (λ m has off.
    let P : List ℕ → Type 0 = λ v. Contains v m in
    let W : List Bool → Type 0 = λ v. bit v (negated m) ≡ true in
    subst W c.values-values.ensures.value
    (c.in-None.ensures.none m (subst P (sym c.lits.ensures.value) (subst P (sym same) has)) off))

pub settle-requires-clause-others : goal.settle-requires-clause-others
settle-requires-clause-others c = λ clause m there has off.
    let found : List ℕ = c.clause.result.now in
    let same : found ≡ clause = same_Some found clause (sym c.clause.ensures ∙ there.is) in
    let P : List ℕ → Type 0 = λ v. Contains v m in
    let W : List Bool → Type 0 = λ v. bit v (negated m) ≡ true in
    subst W c.values-values.ensures.value
    (c.in-None.ensures.none m (subst P (sym c.lits.ensures.value) (subst P (sym same) has)) off)

pub returns-then-pass-clause-keeps : goal.returns-then-pass-clause-keeps
returns-then-pass-clause-keeps c =
    let values : List Bool = c.args.trail.now.values in
    let lits : List ℕ = lits_of c.args.trail.now.places in
    let watches : Watching = c.args.watches.now in
    let other : ℕ = c.other_of-other.result in
    let o : IsOther watches c.args.slot c.args.lit other = c.other_of-other.ensures in
    let is : IsTrail c.args.trail.now.vars values lits = c.values-values.ensures.is in
    let to : ℕ = c.in-Some.to in
    let some = c.in-Some.ensures.some in
    let V : List Bool → Type 0 = λ v. bit v (negated to) ≡ false in
    let free : bit values (negated to) ≡ false = subst V c.values-values.ensures.value some.2 in
    let C : List ℕ → Type 0 = λ v. Contains v to in
    let has : Contains c.clause.result.now to = subst C c.lits.ensures.value some.0 in
    let moved : Moves c.args.store.now lits watches c.args.lit c.args.at c.args.slot c.pass.new.self =
    passed_moves c.args.store.now lits watches c.args.lit c.args.at c.args.slot other to c.pass.new.self c.clause.result.now
    c.if-pass.ensures.passed o some.1 (λ k. both_ways (bit values (negated to)) free (is.on (negated to) k)) has c.clause.ensures in
    keeps_moves c.args.store.now lits watches c.args.lit c.args.at c.args.slot c.pass.new.self moved

pub returns-then-pass-clause-visited : goal.returns-then-pass-clause-visited
returns-then-pass-clause-visited c =
    let values : List Bool = c.args.trail.now.values in
    let lits : List ℕ = lits_of c.args.trail.now.places in
    let watches : Watching = c.args.watches.now in
    let other : ℕ = c.other_of-other.result in
    let o : IsOther watches c.args.slot c.args.lit other = c.other_of-other.ensures in
    let is : IsTrail c.args.trail.now.vars values lits = c.values-values.ensures.is in
    let to : ℕ = c.in-Some.to in
    let some = c.in-Some.ensures.some in
    let V : List Bool → Type 0 = λ v. bit v (negated to) ≡ false in
    let free : bit values (negated to) ≡ false = subst V c.values-values.ensures.value some.2 in
    let C : List ℕ → Type 0 = λ v. Contains v to in
    let has : Contains c.clause.result.now to = subst C c.lits.ensures.value some.0 in
    let moved : Moves c.args.store.now lits watches c.args.lit c.args.at c.args.slot c.pass.new.self =
    passed_moves c.args.store.now lits watches c.args.lit c.args.at c.args.slot other to c.pass.new.self c.clause.result.now
    c.if-pass.ensures.passed o some.1 (λ k. both_ways (bit values (negated to)) free (is.on (negated to) k)) has c.clause.ensures in
    moved
