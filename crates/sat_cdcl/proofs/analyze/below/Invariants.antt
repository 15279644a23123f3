use Rattle.sat_cdcl.specs.Walks.{AreUnmarked}
use Rattle.sat_cdcl.proofs.analyze.below.Given as goal

abbrev pub invariant-loop-place : goal.invariant-loop-place
invariant-loop-place l = AreUnmarked l.trail.places l.derivation l.place l.at
