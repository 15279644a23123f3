use Rattle.std.proofs.Common.{◌<◌, arith}
use Rattle.ja_base.specs.Literals.{variable}
use Rattle.sat_plain.specs.declared.place.Place.{Place}
use Rattle.sat_plain.proofs.WalkLemmas.{place_below}
use Rattle.sat_cdcl.proofs.decide.Order.release_all.Goals as goal

pub release-requires : goal.release-requires
release-requires c =
    let place : Place = c.place.result.now in
    let small : variable place.lit < c.args.trail.now.vars =
    place_below c.args.trail.now.vars c.args.trail.now.values c.args.trail.now.places c.loop-at.at place c.place.ensures.is
    c.place.ensures.value in
    let wide = c.requires in
    let same = c.loop-at.invariant in
    omega arith
