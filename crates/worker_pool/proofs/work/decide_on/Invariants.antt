use Rattle.desk.specs.Seats.{IsLater}
use Rattle.ic3_engine.specs.Engines.{IsReadyFor}
use Rattle.worker_pool.proofs.work.decide_on.Given as goal

abbrev pub invariant-loop : goal.invariant-loop
invariant-loop g l = record {
  engine : IsReadyFor g.S.Sat.count g.S.Sat.added l.coded l.engine;
  seat : IsLater l.fn.seat l.seat;
}
