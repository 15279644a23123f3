use Rattle.std.proofs.Common.{List, ℕ, [], ◌∷◌, ◌++◌, ap, ◌∙◌}
use Rattle.ja_project.proofs.ClauseLemmas.{clause_is}
use Rattle.ja_project.proofs.clauses.add_clause.Goals as goal

pub returns : goal.returns
returns c =
    c.in_ok-push.ensures.ok
    ∙ ap (λ (clause : List ℕ). c.args.clauses.now ++ clause ∷ [])
    (clause_is c.args.lits.now c.in_ok-clause.clause c.in_ok-clause.ensures.set)
