use Rattle.std.proofs.Common.{◌≡◌, take}
use Rattle.ic3_query.specs.Pairs.{IsPair}
use Rattle.ic3_query.proofs.loaded.add_others.Given as goal

abbrev pub invariant-loop-at : goal.invariant-loop-at
invariant-loop-at g l = record {
  pair : IsPair l.pair.checker (g.L.Sat.count l.pair.solver) (g.L.Sat.added l.pair.solver);
  task : l.pair.checker.task ≡ l.coded;
  list : l.pair.checker.list ≡ take l.at l.list.clauses;
}
