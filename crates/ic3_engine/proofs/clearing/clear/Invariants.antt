use Rattle.std.proofs.Common.{◌≡◌}
use Rattle.ja_outside.specs.Flags.{IsPolled}
use Rattle.sat_plain.specs.Ticks.{IsLater}
use Rattle.ic3_query.specs.Questions.{IsRoom}
use Rattle.ic3_engine.specs.Clearing.{GoesOn, work_left}
use Rattle.ic3_engine.specs.Searching.{HasClosed}
use Rattle.ic3_engine.specs.Turns.{state}
use Rattle.ic3_engine.proofs.clearing.clear.Given as goal

abbrev pub invariant-loop-next : goal.invariant-loop-next
invariant-loop-next g l = record {
  goes_on : GoesOn l.coded l.aim
      (state l.fn.z.known l.fn.z.frames l.fn.z.queue (g.S.Sat.count l.fn.z.solver) (g.S.Sat.added l.fn.z.solver))
      (state l.z.known l.z.frames l.z.queue (g.S.Sat.count l.z.solver) (g.S.Sat.added l.z.solver));
  closed : HasClosed l.fn.z.known l.z.known;
  room : IsRoom l.coded.design l.z.room.row l.z.room.vals;
  refused : l.meter.refused ≡ l.fn.meter.refused;
  later : IsLater l.fn.meter l.meter;
  flag : IsPolled g.F.Flag.may_rise g.F.Flag.raised l.fn.flag l.flag;
}

abbrev pub decreases-loop-next : goal.decreases-loop-next
decreases-loop-next g l =
    work_left l.coded (state l.z.known l.z.frames l.z.queue (g.S.Sat.count l.z.solver) (g.S.Sat.added l.z.solver))
