use Rattle.std.proofs.Common.{Some, ℕ, ◌∙◌, ap}
use Rattle.ic3_query.specs.Known.{all_of}
use Rattle.ic3_query.specs.Under.{bad_literals}
use Rattle.ic3_query.proofs.AnswerLemmas.{bad_refuted}
use Rattle.ic3_query.proofs.bad.ask_bad.Goals as goal

pub returns-in-Some-clause-answer : goal.returns-in-Some-clause-answer
returns-in-Some-clause-answer g c =
    let under = c.as_slice.ensures.value ∙ c.in_ok-under.ensures.value
    ∙ ap (λ (m : ℕ). bad_literals c.args.coded.now c.args.level m c.args.prop) c.top.ensures in
    bad_refuted c.args.coded.now (all_of c.args.known.now) c.args.frames.now (g.S.Sat.count c.args.solver.now)
    (g.S.Sat.added c.args.solver.now) c.task-task.ensures.sound c.task-task.ensures.expected c.requires.serves c.args.level
    c.args.prop
    c.as_slice.result.now c.in-Some._core (Some c.vars.result.now) c.question.new.row c.in_ok-_core.field-0 c.requires.within
    under
    c.in_ok-_core.ensures.answer c.in-Some.is
