use Rattle.std.proofs.Common.{◌≡◌, ◌+◌, ◌-◌, ◌^◌, length}
use Rattle.aig_model.specs.Task.{problem}
use Rattle.ja_outside.specs.Flags.{IsPolled}
use Rattle.sat_plain.specs.Ticks.{IsLater}
use Rattle.ic3_query.specs.Questions.{IsRoom}
use Rattle.ic3_engine.specs.Climbing.{IsEngine}
use Rattle.ic3_engine.specs.Searching.{latch_vars}
use Rattle.ic3_engine.specs.Turns.{state}
use Rattle.ic3_engine.proofs.seeking.run.Given as goal

abbrev pub invariant-loop-failure : goal.invariant-loop-failure
invariant-loop-failure g l = record {
  engine : IsEngine l.coded (state l.z.known l.z.frames l.z.queue (g.S.Sat.count l.z.solver) (g.S.Sat.added l.z.solver));
  task : problem l.z.known.task ≡ problem l.coded;
  room : IsRoom l.coded.design l.z.room.row l.z.room.vals;
  refused : l.meter.refused ≡ l.fn.meter.refused;
  later : IsLater l.fn.meter l.meter;
  share_task : g.H.Share.task l.share ≡ g.H.Share.task l.fn.share;
  share_later : g.H.Share.later l.fn.share l.share;
  flag : IsPolled g.F.Flag.may_rise g.F.Flag.raised l.fn.flag l.flag;
}

abbrev pub decreases-loop-failure : goal.decreases-loop-failure
decreases-loop-failure g l = 3 ^ length (latch_vars l.coded.design) + 3 - l.z.frames.top
