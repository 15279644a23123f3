use Rattle.std.proofs.Common.{None, ◌∙◌, arith, subst, sym, List, Bool}
use Rattle.ja_project.proofs.ForeignLemmas.{own_is_below}
use Rattle.ic3_query.specs.Known.{all_of}
use Rattle.ic3_query.specs.Questions.{IsBefore}
use Rattle.ic3_query.proofs.AnswerLemmas.{step_refuted, step_found, known_refuted, known_before, room_swapped}
use Rattle.ic3_query.proofs.query.ask_whole.Goals as goal

pub question-requires-clause-extra : goal.question-requires-clause-extra
question-requires-clause-extra g c = λ k d within.
    omega (
      arith,
      own_is_below c.args.coded.now.design c.task-task.ensures.sound c.args.clause.now c.requires.own k d within,
      c.requires.serves.width,
    )

pub returns-in-Some-clause-answer : goal.returns-in-Some-clause-answer
returns-in-Some-clause-answer g c =
    step_refuted c.args.coded.now (all_of c.args.known.now) c.args.frames.now (g.S.Sat.count c.args.solver.now)
    (g.S.Sat.added c.args.solver.now) c.task-task.ensures.sound c.task-task.ensures.expected c.requires.serves c.args.level
    c.args.clause.now
    c.args.under.now c.in-Some.core None c.question.new.row c.in_ok-core.core c.requires.own c.requires.under
    c.in_ok-core.ensures.answer
    c.in-Some.is

pub returns-in-Some-clause-known : goal.returns-in-Some-clause-known
returns-in-Some-clause-known g c = λ high.
    known_refuted c.args.coded.now (all_of c.args.known.now) c.args.frames.now (g.S.Sat.count c.args.solver.now)
    (g.S.Sat.added c.args.solver.now) c.task-task.ensures.sound c.task-task.ensures.expected c.requires.serves c.args.level
    c.args.clause.now
    c.args.under.now c.in-Some.core None c.question.new.row c.in_ok-core.core c.requires.own c.requires.under
    c.in_ok-core.ensures.answer
    c.in-Some.is high

pub returns-in-None-clause-answer : goal.returns-in-None-clause-answer
returns-in-None-clause-answer g c =
    let P : List Bool
    → Type 0 = IsBefore c.args.coded.now (all_of c.args.known.now) c.args.frames.now c.args.level c.args.clause.now in
    subst P (sym c.swap.ensures.y_after)
    (step_found c.args.coded.now (all_of c.args.known.now) c.args.frames.now (g.S.Sat.count c.args.solver.now)
    (g.S.Sat.added c.args.solver.now) c.task-task.ensures.sound c.task-task.ensures.expected c.requires.serves
    c.args.level c.args.clause.now c.args.under.now c.question.new.row c.in_ok-core.core c.requires.own c.requires.under
    c.in_ok-core.ensures.answer c.in-None.is (c.in_ok-core.ensures.width ∙ c.requires.room.wide))

pub returns-in-None-clause-known : goal.returns-in-None-clause-known
returns-in-None-clause-known g c = λ high.
    known_before c.args.coded.now (all_of c.args.known.now) c.args.frames.now c.args.level c.args.clause.now c.swap.new.y
    (returns-in-None-clause-answer g c) high

pub returns-in-None-clause-room : goal.returns-in-None-clause-room
returns-in-None-clause-room g c =
    room_swapped c.args.coded.now.design c.question.new.row c.args.room.now.vals c.swap.new.x c.swap.new.y c.requires.room.clear
    (returns-in-None-clause-answer g c).now c.swap.ensures.x_after c.swap.ensures.y_after
