use Rattle.std.proofs.Common.{◌≢◌, ℕ, ◌<◌, ◌≤◌, length, get_or}
use Rattle.sat_plain.specs.Trails.{lits_of}
use Rattle.sat_cdcl.proofs.advance.place_of.Given as goal

abbrev pub invariant-loop-at : goal.invariant-loop-at
invariant-loop-at l = (k d : ℕ) → l.at ≤ k → k < length (lits_of l.trail.places) → get_or (lits_of l.trail.places) k d ≢ l.lit
