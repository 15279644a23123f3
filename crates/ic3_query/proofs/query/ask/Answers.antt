use Rattle.std.proofs.Common.{Some, ℕ, ◌∙◌, ap, sym, subst, arith}
use Rattle.ja_project.proofs.ForeignLemmas.{own_is_below}
use Rattle.aig_model.specs.Netlist.{Netlist, circuit}
use Rattle.aig_model.specs.Task.{VerificationTask}
use Rattle.aig_eval.specs.Rows.{IsClear}
use Rattle.ic3_query.specs.Known.{all_of}
use Rattle.ic3_query.specs.Under.{step_literals}
use Rattle.ic3_query.proofs.AnswerLemmas.{step_refuted, known_refuted}
use Rattle.ic3_query.proofs.query.ask.Goals as goal

pub question-requires-clause-extra : goal.question-requires-clause-extra
question-requires-clause-extra g c = λ k d within.
    omega (
      arith,
      own_is_below c.args.coded.now.design c.task-task.ensures.sound c.args.clause.now c.requires.own k d within,
      c.requires.serves.width,
    )

pub returns-in-Some-clause-answer : goal.returns-in-Some-clause-answer
returns-in-Some-clause-answer g c =
    let under = c.as_slice.ensures.value ∙ c.in_ok-under.ensures.value
    ∙ ap (λ (m : ℕ). step_literals c.args.coded.now c.args.level m c.args.clause.now) c.top.ensures in
    step_refuted c.args.coded.now (all_of c.args.known.now) c.args.frames.now (g.S.Sat.count c.args.solver.now)
    (g.S.Sat.added c.args.solver.now) c.task-task.ensures.sound c.task-task.ensures.expected c.requires.serves c.args.level
    c.args.clause.now
    c.as_slice.result.now c.in-Some.core (Some c.vars.result.now) c.question.new.row c.in_ok-core.field-0 c.requires.own under
    c.in_ok-core.ensures.answer c.in-Some.is

pub returns-in-Some-clause-known : goal.returns-in-Some-clause-known
returns-in-Some-clause-known g c = λ high.
    let under = c.as_slice.ensures.value ∙ c.in_ok-under.ensures.value
    ∙ ap (λ (m : ℕ). step_literals c.args.coded.now c.args.level m c.args.clause.now) c.top.ensures in
    known_refuted c.args.coded.now (all_of c.args.known.now) c.args.frames.now (g.S.Sat.count c.args.solver.now)
    (g.S.Sat.added c.args.solver.now) c.task-task.ensures.sound c.task-task.ensures.expected c.requires.serves c.args.level
    c.args.clause.now
    c.as_slice.result.now c.in-Some.core (Some c.vars.result.now) c.question.new.row c.in_ok-core.field-0 c.requires.own under
    c.in_ok-core.ensures.answer c.in-Some.is high

pub fill-requires-clause-vals : goal.fill-requires-clause-vals
fill-requires-clause-vals g c =
    let same = c.design.ensures.value ∙ ap (λ (t : VerificationTask). t.design) c.task-task.ensures.value in
    let P : Netlist → Type 0 = λ n. IsClear (circuit n) c.args.room.now.vals in
    subst P (sym same) c.requires.room.clear
