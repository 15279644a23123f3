use Rattle.std.proofs.Common.{◌≡◌, take}
use Rattle.sat_plain.specs.Starts.{AreAssumed}
use Rattle.sat_plain.proofs.start.assume_all.Given as goal

abbrev pub invariant-loop-lit : goal.invariant-loop-lit
invariant-loop-lit l =
    (l.trail.vars ≡ l.initial.trail.vars) × AreAssumed (take l.lit-index l.under) l.trail.places
