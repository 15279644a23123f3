use Rattle.std.proofs.Common.{None, List, Bool, ◌∙◌, sym, subst}
use Rattle.ic3_query.specs.Known.{all_of}
use Rattle.ic3_query.specs.Questions.{IsBadRow}
use Rattle.ic3_query.proofs.AnswerLemmas.{bad_refuted, bad_found, room_swapped}
use Rattle.ic3_query.proofs.bad.ask_bad_whole.Goals as goal

pub returns-in-Some-clause-answer : goal.returns-in-Some-clause-answer
returns-in-Some-clause-answer g c =
    bad_refuted c.args.coded.now (all_of c.args.known.now) c.args.frames.now (g.S.Sat.count c.args.solver.now)
    (g.S.Sat.added c.args.solver.now) c.task-task.ensures.sound c.task-task.ensures.expected c.requires.serves c.args.level
    c.args.prop
    c.args.under.now c.in-Some._core None c.question.new.row c.in_ok-_core.field-0 c.requires.within c.requires.under
    c.in_ok-_core.ensures.answer c.in-Some.is

pub returns-clause-answer : goal.returns-clause-answer
returns-clause-answer g c =
    let P : List Bool → Type 0 = IsBadRow c.args.coded.now (all_of c.args.known.now) c.args.frames.now c.args.level c.args.prop in
    subst P (sym c.swap.ensures.y_after)
    (bad_found c.args.coded.now (all_of c.args.known.now) c.args.frames.now (g.S.Sat.count c.args.solver.now)
    (g.S.Sat.added c.args.solver.now) c.task-task.ensures.sound c.task-task.ensures.expected c.requires.serves
    c.args.level c.args.prop c.args.under.now c.question.new.row c.in_ok-_core.field-0 c.requires.within c.requires.under
    c.in_ok-_core.ensures.answer c.in_default.is (c.in_ok-_core.ensures.width ∙ c.requires.room.wide))

pub returns-clause-room : goal.returns-clause-room
returns-clause-room g c =
    room_swapped c.args.coded.now.design c.question.new.row c.args.room.now.vals c.swap.new.x c.swap.new.y c.requires.room.clear
    (returns-clause-answer g c).now c.swap.ensures.x_after c.swap.ensures.y_after
