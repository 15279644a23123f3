use Rattle.std.proofs.Common.{◌≡◌}
use Rattle.ic3_engine.specs.Engines.{IsReadyFor}
use Rattle.worker_pool.specs.Judgements.{unset}
use Rattle.sign_task.specs.Underway.{IsUnderway, IsHalted, Keeps}
use Rattle.sign_task.proofs.deciding.decide.Given as goal

abbrev pub invariant-loop-settled : goal.invariant-loop-settled
invariant-loop-settled g l = record {
  engine : IsReadyFor g.S.Sat.count g.S.Sat.added l.coded l.engine;
  underway : IsUnderway l.coded l.terms l.board;
  halted : IsHalted l.coded l.board;
  keeps : Keeps l.fn.board l.board;
  limit : l.meter.limit ≡ l.terms.limit;
}

abbrev pub decreases-loop-settled : goal.decreases-loop-settled
decreases-loop-settled g l = unset l.engine.failed
