use Rattle.std.proofs.Common.{◌≡◌, ◌++◌, [], ◌∷◌, map, take}
use Rattle.ic3_query.proofs.loading.add_units.Given as goal

abbrev pub invariant-loop-lit : goal.invariant-loop-lit
invariant-loop-lit g l = record {
  count : g.S.Sat.count l.solver ≡ g.S.Sat.count l.fn.solver;
  added : g.S.Sat.added l.solver ≡ g.S.Sat.added l.fn.solver ++ map (λ k. k ∷ []) (take l.lit-index l.lits);
}
