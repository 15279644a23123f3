use Rattle.std.proofs.Common.{◌∙◌, arith}
use Rattle.aig_model.specs.Task.{problem}
use Rattle.ic3_query.proofs.SeenLemmas.{below_at, loaded_more, own_for}
use Rattle.ic3_query.proofs.loading.add_closed.Goals as goal

pub add-requires : goal.add-requires
add-requires g c =
    below_at c.args.coded.now.design c.task-task.ensures.sound c.args.closed.now.clauses c.loop-at.at
    (g.S.Sat.count c.loop-at.solver)
    c.clause.result.now
    (own_for (problem c.args.closed.now.task) c.args.coded.now c.args.closed.now.clauses c.requires.task
    c.is_closed.ensures.closed.own)
    c.clause.ensures (omega (arith, c.requires.wide, c.loop-at.invariant.count))

pub loop-at-preserved : goal.loop-at-preserved
loop-at-preserved g c = record {
  count = c.in_ok-add.ensures.count ∙ c.loop-at.invariant.count;
  added = loaded_more (g.S.Sat.added c.args.solver.now) (g.S.Sat.added c.loop-at.solver) (g.S.Sat.added c.add.new.self)
      c.args.closed.now.clauses c.loop-at.at c.clause.result.now c.loop-at.invariant.added c.clause.ensures
      c.in_ok-add.ensures.ok;
}
