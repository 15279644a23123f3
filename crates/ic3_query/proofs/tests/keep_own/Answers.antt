use Rattle.ic3_query.proofs.LevelLemmas.{levels_added}
use Rattle.ic3_query.proofs.tests.keep_own.Goals as goal

pub returns-clause-levels : goal.returns-clause-levels
returns-clause-levels g c =
    levels_added c.args.coded.now.design c.args.frames.now.kept c.keep.new.frames.kept c.args.clause c.args.level
    c.requires.levels
    c.requires.own c.in_ok-keep.ensures.kept
