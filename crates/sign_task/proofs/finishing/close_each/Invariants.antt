use Rattle.ic3_engine.specs.Engines.{IsReadyFor}
use Rattle.sign_task.specs.Underway.{IsUnderway, IsHalted, AreMarked}
use Rattle.sign_task.proofs.finishing.close_each.Given as goal

abbrev pub invariant-loop-prop : goal.invariant-loop-prop
invariant-loop-prop g l = record {
  engine : IsReadyFor g.S.Sat.count g.S.Sat.added l.coded l.engine;
  underway : IsUnderway l.coded l.terms l.board;
  halted : IsHalted l.coded l.board;
  marked : AreMarked l.board l.prop;
}
