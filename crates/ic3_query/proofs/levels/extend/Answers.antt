use Rattle.std.proofs.Common.{ℕ, List, sym, subst, arith}
use Rattle.std.specs.List.{All}
use Rattle.ja_base.specs.Clauses.{IsBelow}
use Rattle.ic3_query.proofs.LevelLemmas.{serves_extended}
use Rattle.ic3_query.proofs.SeenLemmas.{are_below}
use Rattle.ic3_query.proofs.levels.extend.Goals as goal

pub add_all-requires : goal.add_all-requires
add_all-requires g c =
    let P : List (List ℕ) → Type 0 = All (IsBelow (g.S.Sat.count c.args.solver.now)) in
    subst P (sym c.as_slice.ensures.value) (are_below c.args.coded.now.design c.task-task.ensures.sound c.args.more
    (g.S.Sat.count c.args.solver.now) c.requires.own (omega (arith, c.requires.serves.width)))

pub returns-clause-serves : goal.returns-clause-serves
returns-clause-serves g c =
    serves_extended c.args.coded.now.design c.args.frames.now c.args.known.now c.extend.new.self c.args.more c.as_slice.result.now
    (g.S.Sat.count c.args.solver.now) (g.S.Sat.count c.add_all.new.solver) (g.S.Sat.added c.args.solver.now)
    (g.S.Sat.added c.add_all.new.solver) c.requires.serves c.requires.own c.in_ok-add_all.ensures.count
    c.in_ok-add_all.ensures.added
    c.as_slice.ensures.value c.in_ok-extend.ensures.ok
