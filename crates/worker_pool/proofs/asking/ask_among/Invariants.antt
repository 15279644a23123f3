use Rattle.std.proofs.Common.{◌≡◌, ◌+◌, ◌^◌, length}
use Rattle.desk.specs.Seats.{IsLater}
use Rattle.ja_outside.specs.Flags.{IsPolled}
use Rattle.ic3_engine.specs.Searching.{latch_vars}
use Rattle.ic3_engine.specs.Engines.{IsReadyFor}
use Rattle.worker_pool.proofs.JudgementLemmas.{left}
use Rattle.worker_pool.proofs.asking.ask_among.Given as goal

abbrev pub invariant-loop-found : goal.invariant-loop-found
invariant-loop-found g l = record {
  engine : IsReadyFor g.S.Sat.count g.S.Sat.added l.coded l.engine;
  failed : l.engine.failed ≡ l.fn.engine.failed;
  seat : IsLater l.fn.seat l.seat;
  limit : l.meter.limit ≡ l.fn.meter.limit;
  flag : IsPolled g.F.Flag.may_rise g.F.Flag.raised l.fn.flag l.flag;
}

abbrev pub decreases-loop-found : goal.decreases-loop-found
decreases-loop-found g l = left (3 ^ length (latch_vars l.coded.design) + 3) l.engine.search.frames.top l.engine.live
