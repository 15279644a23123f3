use Rattle.std.proofs.Common.{◌≡◌, ◌++◌, take}
use Rattle.ic3_query.proofs.loading.add_all.Given as goal

abbrev pub invariant-loop-clause : goal.invariant-loop-clause
invariant-loop-clause g l = record {
  count : g.S.Sat.count l.solver ≡ g.S.Sat.count l.fn.solver;
  added : g.S.Sat.added l.solver ≡ g.S.Sat.added l.fn.solver ++ take l.clause-index l.clauses;
}
