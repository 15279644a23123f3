use Rattle.std.proofs.Common.{[], ◌∷◌, arith}
use Rattle.ja_project.proofs.RangeLemmas.{map_more, map_all}
use Rattle.ja_project.proofs.clauses.add_constraints.Goals as goal

pub loop-at-preserved : goal.loop-at-preserved
loop-at-preserved c = map_more c.args.design.now.constraints c.args.clauses.now (λ l. l ∷ []) c.loop-at.at c.constraint.result
    c.loop-at.clauses c.add_clause.new.clauses c.constraint.ensures.value c.loop-at.invariant c.in_ok-add_clause.ensures

pub returns : goal.returns
returns c = map_all c.args.design.now.constraints c.args.clauses.now (λ l. l ∷ []) c.loop-at.at c.loop-at.clauses
    (omega arith) c.loop-at.invariant
