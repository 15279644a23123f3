use Rattle.std.proofs.Common.{◌≡◌, ℕ, ◌-◌, false, length, arith}
use Rattle.ja_base.specs.Literals.{bit}
use Rattle.sat_plain.specs.declared.place.Place.{Place}
use Rattle.sat_cdcl.proofs.PointLemmas.{none_from, unmarked_from, within_marks, unmarked_more}
use Rattle.sat_cdcl.proofs.analyze.below.Goals as goal

pub skips-requires : goal.skips-requires
skips-requires c =
    let w =
    within_marks c.args.trail.now.vars (length c.args.derivation.now.marks) c.args.trail.now.values c.args.trail.now.places
    (c.loop-place.place - 1) c.place-found.result.now c.place-found.ensures.is c.place-found.ensures.value c.requires.width in
    w.0

pub returns-then-is_none : goal.returns-then-is_none
returns-then-is_none c =
    let k : ℕ = c.loop-place.place - 1 in
    let some = c.loop-place-test.true in
    let place : Place = c.place-found.result.now in
    let free : bit c.args.derivation.now.marks place.lit ≡ false =
    unmarked_from (bit c.args.derivation.now.marks place.lit) c.skips.result c.skips.ensures.value c.if-not-skips.false in (
      omega (arith, some, c.requires.at),
      record {
        place = place;
        is = c.place-found.ensures.value;
        decided = none_from place.reason c.is_none.result c.is_none.ensures c.if-is_none.true;
      },
      unmarked_more c.args.trail.now.places c.args.derivation.now k c.loop-place.place c.args.at place (omega (arith, some))
          c.place-found.ensures.value free c.loop-place.invariant,
    )

pub loop-place-preserved : goal.loop-place-preserved
loop-place-preserved c =
    let k : ℕ = c.loop-place.place - 1 in
    let some = c.loop-place-test.true in
    let place : Place = c.place-found.result.now in
    let free : bit c.args.derivation.now.marks place.lit ≡ false =
    unmarked_from (bit c.args.derivation.now.marks place.lit) c.skips.result c.skips.ensures.value c.if-not-skips.false in
    unmarked_more c.args.trail.now.places c.args.derivation.now k c.loop-place.place c.args.at place (omega (arith, some))
    c.place-found.ensures.value free c.loop-place.invariant
