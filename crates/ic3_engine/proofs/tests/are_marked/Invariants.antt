use Rattle.ic3_engine.specs.Engines.{IsReadyFor}
use Rattle.ic3_engine.proofs.tests.are_marked.Given as goal

abbrev pub invariant-loop-at : goal.invariant-loop-at
invariant-loop-at g l = record {
  ready : IsReadyFor g.S.Sat.count g.S.Sat.added l.coded l.engine;
}
