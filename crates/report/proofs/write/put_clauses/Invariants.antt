use Rattle.std.proofs.Common.{◌≡◌, ◌++◌, ◌<◌, ◌^◌, take}
use Rattle.std.specs.List.{flat_map, AllByRecursion}
use Rattle.report.specs.Reports.{line_of, clause_words}
use Rattle.report.proofs.write.put_clauses.Given as goal

abbrev pub invariant-loop-clause : goal.invariant-loop-clause
invariant-loop-clause
    l = record {
      text : l.text ≡ l.fn.text ++ flat_map (λ c. line_of (clause_words c)) (take l.clause-index l.clauses);
      small : AllByRecursion (AllByRecursion (λ k. k < 2 ^ 32)) (take l.clause-index l.clauses);
    }
