use Rattle.std.proofs.Common.{◌≡◌, take}
use Rattle.ic3_frames.specs.Levels.{at_level}
use Rattle.ic3_engine.proofs.fixing.standing.Given as goal

abbrev pub invariant-loop-at : goal.invariant-loop-at
invariant-loop-at l = l.clauses ≡ at_level (take l.at l.frames.kept) l.level
