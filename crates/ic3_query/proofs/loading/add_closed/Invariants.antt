use Rattle.std.proofs.Common.{◌≡◌, ◌++◌, take}
use Rattle.ic3_query.proofs.loading.add_closed.Given as goal

abbrev pub invariant-loop-at : goal.invariant-loop-at
invariant-loop-at g l = record {
  count : g.S.Sat.count l.solver ≡ g.S.Sat.count l.fn.solver;
  added : g.S.Sat.added l.solver ≡ g.S.Sat.added l.fn.solver ++ take l.at l.closed.clauses;
}
