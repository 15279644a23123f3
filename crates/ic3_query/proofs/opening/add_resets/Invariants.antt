use Rattle.std.proofs.Common.{◌≡◌}
use Rattle.ic3_query.specs.Opening.{AreReset, Says}
use Rattle.ic3_query.proofs.opening.add_resets.Given as goal

abbrev pub invariant-loop-at : goal.invariant-loop-at
invariant-loop-at g l = record {
  count : g.S.Sat.count l.solver ≡ g.S.Sat.count l.fn.solver;
  said : Says (AreReset l.coded.design l.at) (g.S.Sat.added l.fn.solver) (g.S.Sat.added l.solver);
}
