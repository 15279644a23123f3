use Rattle.std.proofs.Common.{ℕ, List, ◌+◌, subst, arith}
use Rattle.ja_base.specs.Clauses.{IsBelow}
use Rattle.ja_project.proofs.ForeignLemmas.{own_is_below}
use Rattle.ic3_query.specs.Known.{all_of}
use Rattle.ic3_query.proofs.LevelLemmas.{serves_moved}
use Rattle.ic3_query.proofs.RowLemmas.{guarded_is_below}
use Rattle.ic3_query.proofs.levels.push.Goals as goal

pub add-requires : goal.add-requires
add-requires g c =
    let P : List ℕ → Type 0 = IsBelow (c.args.coded.now.design.vars + 1) in
    let m = c.requires.movable in
    guarded_is_below c.args.coded.now.design c.args.level
    (g.S.Sat.count c.args.solver.now) c.clause.result.now c.in_ok-guarded.guarded
    c.in_ok-guarded.ensures
    (subst P (c.clause.ensures m.entry m.is)
    (own_is_below c.args.coded.now.design c.task-task.ensures.sound m.entry.clause m.own))
    (omega (arith, c.requires.high, c.requires.serves.width))

pub returns-clause-serves : goal.returns-clause-serves
returns-clause-serves g c =
    serves_moved c.args.coded.now.design (all_of c.args.known.now) c.args.frames.now c.push.new.self c.args.at c.args.level
    c.clause.result.now c.in_ok-guarded.guarded (g.S.Sat.count c.args.solver.now) (g.S.Sat.count c.add.new.self)
    (g.S.Sat.added c.args.solver.now) (g.S.Sat.added c.add.new.self) c.requires.serves c.requires.high c.requires.movable
    c.clause.ensures c.in_ok-guarded.ensures c.in_ok-add.ensures.count c.in_ok-add.ensures.ok c.push.ensures.kept
    c.push.ensures.top
