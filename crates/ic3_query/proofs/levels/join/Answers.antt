use Rattle.std.proofs.Common.{arith}
use Rattle.ja_project.proofs.ForeignLemmas.{own_is_below}
use Rattle.ic3_query.proofs.LevelLemmas.{serves_joined}
use Rattle.ic3_query.proofs.levels.join.Goals as goal

pub add-requires : goal.add-requires
add-requires g c = λ k d within.
    omega (
      arith,
      own_is_below c.args.coded.now.design c.task-task.ensures.sound c.args.clause c.requires.own k d within,
      c.requires.serves.width,
    )

pub returns-clause-serves : goal.returns-clause-serves
returns-clause-serves g c =
    serves_joined c.args.coded.now.design c.args.frames.now c.add-2.new.self c.args.known.now c.join.new.self c.top-top.result
    c.args.clause (g.S.Sat.count c.args.solver.now) (g.S.Sat.count c.add.new.self) (g.S.Sat.added c.args.solver.now)
    (g.S.Sat.added c.add.new.self) c.requires.serves c.requires.own c.in_ok-add.ensures.count c.in_ok-add.ensures.ok
    (rw c.in_ok-copy.ensures at c.in_ok-join.ensures.ok) c.in_ok-add-2.ensures.kept c.in_ok-add-2.ensures.top
