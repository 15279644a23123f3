use Rattle.std.proofs.Common.{◌≡◌, [], ◌∷◌, ◌++◌, map, take}
use Rattle.ja_project.proofs.clauses.add_constraints.Given as goal

abbrev pub invariant-loop-at : goal.invariant-loop-at
invariant-loop-at l = l.clauses ≡ l.fn.clauses ++ map (λ lit. lit ∷ []) (take l.at l.design.constraints)
