use Rattle.std.proofs.Common.{◌≡◌, ◌++◌, take}
use Rattle.inv_cert.proofs.tests.add_each.Given as goal

abbrev pub invariant-loop-clause : goal.invariant-loop-clause
invariant-loop-clause l = record {
  task : l.checker.task ≡ l.fn.checker.task;
  list : l.checker.list ≡ l.fn.checker.list ++ take l.clause-index l.clauses;
}
