use Rattle.std.proofs.Common.{arith}
use Rattle.ja_project.proofs.ForeignLemmas.{own_is_below}
use Rattle.ic3_query.specs.Known.{all_of}
use Rattle.ic3_query.proofs.LevelLemmas.{serves_added}
use Rattle.ic3_query.proofs.RowLemmas.{guarded_is_below}
use Rattle.ic3_query.proofs.levels.keep.Goals as goal

pub add-requires : goal.add-requires
add-requires g c =
    guarded_is_below c.args.coded.now.design c.args.level (g.S.Sat.count c.args.solver.now) c.args.clause c.in_ok-guarded.guarded
    c.in_ok-guarded.ensures (own_is_below c.args.coded.now.design c.task-task.ensures.sound c.args.clause c.requires.own)
    (omega (arith, c.requires.high, c.requires.serves.width))

pub returns-clause-serves : goal.returns-clause-serves
returns-clause-serves g c =
    serves_added c.args.coded.now.design (all_of c.args.known.now) c.args.frames.now c.add-2.new.self c.args.level c.args.clause
    c.in_ok-guarded.guarded (g.S.Sat.count c.args.solver.now) (g.S.Sat.count c.add.new.self) (g.S.Sat.added c.args.solver.now)
    (g.S.Sat.added c.add.new.self) c.requires.serves c.requires.high c.requires.own c.requires.begins c.in_ok-guarded.ensures
    c.in_ok-add.ensures.count c.in_ok-add.ensures.ok c.in_ok-add-2.ensures.kept c.in_ok-add-2.ensures.top
