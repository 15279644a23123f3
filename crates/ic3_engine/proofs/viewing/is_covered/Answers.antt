use Rattle.std.proofs.Common.{refl}
use Rattle.aig_model.specs.Task.{problem}
use Rattle.ic3_query.specs.Known.{all_of}
use Rattle.ic3_query.proofs.SeenLemmas.{own_for}
use Rattle.ic3_engine.proofs.ViewLemmas.{closed_covers, open_not_covers, front_of, core_of}
use Rattle.ic3_engine.proofs.viewing.is_covered.Goals as goal

pub returns-in-Open-clause-answer : goal.returns-in-Open-clause-answer
returns-in-Open-clause-answer g c =
    let own = own_for (problem c.args.known.now.task) c.args.coded.now (all_of c.args.known.now) c.requires.task c.own-own.ensures.known.own in
    let front = front_of c.args.coded.now (all_of c.args.known.now) c.bad-bad.result (g.S.Sat.count c.args.solver.now)
    (g.S.Sat.added c.args.solver.now) c.probe.new.row c.requires.count c.requires.added c.in-Open.ensures.answer in (
      λ e. absurd cc,
      λ covers. absurd (open_not_covers c.args.coded.now (all_of c.args.known.now) c.args.prop c.bad-bad.result
          c.task-task.ensures.sound own c.bad-bad.ensures.meaning c.probe.new.row front covers),
    )

pub returns-in-Closed-clause-answer : goal.returns-in-Closed-clause-answer
returns-in-Closed-clause-answer g c =
    let own = own_for (problem c.args.known.now.task) c.args.coded.now (all_of c.args.known.now) c.requires.task c.own-own.ensures.known.own in
    let closes = core_of c.args.coded.now (all_of c.args.known.now) c.bad-bad.result (g.S.Sat.count c.args.solver.now)
    (g.S.Sat.added c.args.solver.now) c.in-Closed.field-0 c.requires.count c.requires.added c.in-Closed.ensures.answer in (
      λ e. closed_covers c.args.coded.now (all_of c.args.known.now) c.args.prop c.bad-bad.result c.task-task.ensures.sound own
          c.bad-bad.ensures.meaning c.in-Closed.field-0 closes,
      λ covers. refl,
    )
