use Rattle.std.proofs.Common.{◌≡◌}
use Rattle.aig_model.specs.Task.{problem}
use Rattle.ja_outside.specs.Flags.{IsPolled}
use Rattle.sat_plain.specs.Ticks.{IsLater}
use Rattle.ic3_query.specs.Questions.{IsRoom}
use Rattle.ic3_engine.specs.Climbing.{IsEngine}
use Rattle.ic3_engine.specs.Turns.{state}
use Rattle.ic3_engine.proofs.knowing.covers_for_good.Given as goal

abbrev pub invariant-loop : goal.invariant-loop
invariant-loop g l = record {
  engine : IsEngine l.coded (state l.z.known l.z.frames l.z.queue (g.S.Sat.count l.z.solver) (g.S.Sat.added l.z.solver));
  task : problem l.z.known.task ≡ problem l.coded;
  top : l.z.frames.top ≡ l.fn.z.frames.top;
  room : IsRoom l.coded.design l.z.room.row l.z.room.vals;
  refused : l.meter.refused ≡ l.fn.meter.refused;
  later : IsLater l.fn.meter l.meter;
  flag : IsPolled g.F.Flag.may_rise g.F.Flag.raised l.fn.flag l.flag;
}
