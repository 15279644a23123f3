use Rattle.std.proofs.Common.{length, arith}
use Rattle.ic3_query.proofs.SeenLemmas.{levels_below, level_met}
use Rattle.ic3_query.proofs.seen.meets_level.Goals as goal

pub holds_at-requires-clause-below : goal.holds_at-requires-clause-below
holds_at-requires-clause-below c =
    levels_below c.args.coded.now.design c.task-task.ensures.sound c.args.frames.now.kept
    (length c.args.vals.now) c.requires.levels
    c.requires.width

pub returns : goal.returns
returns c =
    level_met c.args.coded.now.design c.args.frames.now.kept c.args.level c.args.vals.now c.requires.levels
    (λ k e within is up. c.loop-at.invariant k e (omega (arith, within, c.loop-at-test.false, c.len-at-end.ensures)) is up)
