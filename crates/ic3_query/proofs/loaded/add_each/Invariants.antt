use Rattle.std.proofs.Common.{◌≡◌, ◌++◌, take}
use Rattle.ic3_query.specs.Pairs.{IsPair}
use Rattle.ic3_query.proofs.loaded.add_each.Given as goal

abbrev pub invariant-loop-clause : goal.invariant-loop-clause
invariant-loop-clause g l = record {
  pair : IsPair l.pair.checker (g.L.Sat.count l.pair.solver) (g.L.Sat.added l.pair.solver);
  task : l.pair.checker.task ≡ l.fn.pair.checker.task;
  list : l.pair.checker.list ≡ l.fn.pair.checker.list ++ take l.clause-index l.clauses;
}
