use Rattle.std.proofs.Common.{ℕ, List, sym, subst, ◌∙◌, arith}
use Rattle.std.specs.List.{All}
use Rattle.ja_base.specs.Clauses.{IsBelow}
use Rattle.ja_base.specs.ClauseSets.{fresh}
use Rattle.aig_model.specs.Task.{problem}
use Rattle.ic3_query.proofs.LevelLemmas.{serves_imported, fresh_is_own}
use Rattle.ic3_query.proofs.SeenLemmas.{are_below, list_is_own, own_for}
use Rattle.ic3_query.proofs.levels.import.Goals as goal

pub add_all-requires : goal.add_all-requires
add_all-requires g c =
    let P : List (List ℕ) → Type 0 = All (IsBelow (g.S.Sat.count c.args.solver.now)) in
    let own_list = list_is_own (problem c.args.known.now.task) c.args.coded.now c.args.known.now.list c.args.known.now.own
    c.requires.task c.own-own.ensures.known in
    let own_more = own_for (problem c.args.more.now.task) c.args.coded.now c.args.more.now.clauses c.requires.more
    c.is_closed.ensures.closed.own in
    let is = c.as_slice.ensures.value ∙ c.in_ok-added.ensures.fresh in
    subst P (sym is)
    (are_below c.args.coded.now.design c.task-task.ensures.sound (fresh c.args.known.now.list c.args.more.now.clauses)
    (g.S.Sat.count c.args.solver.now)
    (fresh_is_own c.args.coded.now.design c.args.known.now.list c.args.more.now.clauses own_list own_more)
    (omega (arith, c.requires.serves.width)))

pub returns-clause-serves : goal.returns-clause-serves
returns-clause-serves g c =
    let own_list = list_is_own (problem c.args.known.now.task) c.args.coded.now c.args.known.now.list c.args.known.now.own
    c.requires.task c.own-own.ensures.known in
    let own_more = own_for (problem c.args.more.now.task) c.args.coded.now c.args.more.now.clauses c.requires.more
    c.is_closed.ensures.closed.own in
    serves_imported c.args.coded.now.design c.args.frames.now c.args.known.now c.import.new.self c.args.more.now.clauses
    c.in_ok-added.added c.as_slice.result.now (g.S.Sat.count c.args.solver.now) (g.S.Sat.count c.add_all.new.solver)
    (g.S.Sat.added c.args.solver.now) (g.S.Sat.added c.add_all.new.solver) c.requires.serves own_list own_more
    c.in_ok-add_all.ensures.count c.in_ok-add_all.ensures.added c.as_slice.ensures.value c.in_ok-added.ensures.fresh
    c.in_ok-added.ensures.list c.in_ok-added.ensures.own
