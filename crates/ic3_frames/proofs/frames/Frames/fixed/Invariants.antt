use Rattle.ic3_frames.specs.Levels.{HasOwnBelow}
use Rattle.ic3_frames.proofs.frames.Frames.fixed.Given as goal

abbrev pub invariant-loop-level : goal.invariant-loop-level
invariant-loop-level l = HasOwnBelow l.self.kept l.level
