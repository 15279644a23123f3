use Rattle.std.proofs.Common.{◌≡◌, eqb, drop}
use Rattle.std.specs.List.{list_any}
use Rattle.ic3_frames.specs.Levels.{Entry}
use Rattle.ic3_frames.proofs.frames.Frames.has_own.Given as goal

abbrev pub invariant-loop-kept : goal.invariant-loop-kept
invariant-loop-kept l =
    list_any (λ (e : Entry). eqb e.level l.level) l.self.kept ≡ list_any (λ (e : Entry). eqb e.level l.level) (drop l.kept-index l.self.kept)
