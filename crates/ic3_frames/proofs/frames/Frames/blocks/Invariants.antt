use Rattle.std.proofs.Common.{◌≡◌, drop}
use Rattle.ic3_frames.specs.Levels.{is_blocked}
use Rattle.ic3_frames.proofs.frames.Frames.blocks.Given as goal

abbrev pub invariant-loop-kept : goal.invariant-loop-kept
invariant-loop-kept l =
    is_blocked l.self.kept l.level l.clause ≡ is_blocked (drop l.kept-index l.self.kept) l.level l.clause
