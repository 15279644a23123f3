use Rattle.std.proofs.Common.{◌≡◌}
use Rattle.desk.specs.Seats.{IsLater}
use Rattle.ic3_engine.specs.Engines.{IsReadyFor}
use Rattle.worker_pool.specs.Judgements.{unset}
use Rattle.worker_pool.proofs.deciding.decide.Given as goal

abbrev pub invariant-loop-done : goal.invariant-loop-done
invariant-loop-done g l = record {
  engine : IsReadyFor g.S.Sat.count g.S.Sat.added l.coded l.engine;
  seat : IsLater l.fn.seat l.seat;
  limit : l.meter.limit ≡ l.fn.limit;
}

abbrev pub decreases-loop-done : goal.decreases-loop-done
decreases-loop-done g l = unset l.engine.failed
