use Rattle.std.proofs.Common.{◌≡◌, length, take}
use Rattle.sat_plain.proofs.trail.Trail.undo.Given as goal

abbrev pub invariant-loop-self : goal.invariant-loop-self
invariant-loop-self l =
    (l.self.vars ≡ l.initial.self.vars) × (take l.to l.self.places ≡ take l.to l.initial.self.places)

abbrev pub decreases-loop-self : goal.decreases-loop-self
decreases-loop-self l = length l.self.places
