use Rattle.ic3_engine.specs.Engines.{IsReadyFor}
use Rattle.check_engine.proofs.tally.take.Given as goal

abbrev pub invariant-loop : goal.invariant-loop
invariant-loop g l = record {
  ready : IsReadyFor g.S.Sat.count g.S.Sat.added l.coded l.engine;
}
