use Rattle.ic3_engine.specs.Engines.{IsReadyFor}
use Rattle.check_engine.proofs.tally.tally_of.Given as goal

abbrev pub invariant-loop-prop : goal.invariant-loop-prop
invariant-loop-prop g l = record {
  ready : IsReadyFor g.S.Sat.count g.S.Sat.added l.coded l.engine;
}
