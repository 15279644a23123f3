use Rattle.std.proofs.Common.{take, ◌≡◌}
use Rattle.std.specs.List.{All, Contains}
use Rattle.sat_plain.specs.Trails.{lits_of}
use Rattle.sat_cdcl.proofs.assume.next_assumed.Given as goal

abbrev pub invariant-loop-at : goal.invariant-loop-at
invariant-loop-at l = All (Contains (lits_of l.trail.places)) (take l.at l.under) × (l.cursor ≡ l.initial.cursor)
