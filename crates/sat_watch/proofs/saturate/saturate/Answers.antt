use Rattle.std.proofs.Common.{◌≤◌, List, length, arith}
use Rattle.sat_plain.specs.declared.place.Place.{Place}
use Rattle.sat_plain.specs.Trails.{lits_of}
use Rattle.sat_plain.proofs.PlaceLemmas.{lits_length}
use Rattle.sat_watch.proofs.StepLemmas.{forced_chain}
use Rattle.sat_watch.proofs.StillLemmas.{fine_end, still_values}
use Rattle.sat_watch.proofs.saturate.saturate.Goals as goal

pub returns-in-Some-clause-grown : goal.returns-in-Some-clause-grown
returns-in-Some-clause-grown c =
    forced_chain c.args.trail.now.places c.loop-at.trail.places c.sweep_all.new.trail.places c.loop-at.invariant.grown
    c.sweep_all.ensures.grown

pub returns-then-len-clause-step : goal.returns-then-len-clause-step
returns-then-len-clause-step c = λ k clause there.
    let before : List Place = c.loop-at.trail.places in
    let after : List Place = c.sweep_all.new.trail.places in
    let end : length (lits_of after) ≤ length before =
    let t = c.if-len.true in omega (arith, t, c.len.ensures.value, c.len-len.ensures.value, lits_length after) in
    still_values c.sweep_all.new.trail.vars c.sweep_all.new.trail.values (lits_of after) clause c.sweep_all.ensures.is
    (fine_end (lits_of after) (length before) clause end (c.in_default.ensures.fine k clause there))
