use Rattle.std.proofs.Common.{◌≡◌, []}
use Rattle.ja_outside.specs.Flags.{IsPolled}
use Rattle.sat_plain.specs.Ticks.{IsLater}
use Rattle.ic3_query.specs.Questions.{IsRoom}
use Rattle.ic3_engine.specs.Clearing.{GoesOn, room_above}
use Rattle.ic3_engine.specs.Searching.{HasClosed}
use Rattle.ic3_engine.specs.Turns.{state}
use Rattle.ic3_engine.proofs.covering.cover.Given as goal

abbrev pub invariant-loop-failure : goal.invariant-loop-failure
invariant-loop-failure g l = record {
  goes_on : GoesOn l.coded l.aim
      (state l.fn.z.known l.fn.z.frames l.fn.z.queue (g.S.Sat.count l.fn.z.solver) (g.S.Sat.added l.fn.z.solver))
      (state l.z.known l.z.frames l.z.queue (g.S.Sat.count l.z.solver) (g.S.Sat.added l.z.solver));
  empty : l.z.queue ≡ [];
  closed : HasClosed l.fn.z.known l.z.known;
  room : IsRoom l.coded.design l.z.room.row l.z.room.vals;
  refused : l.meter.refused ≡ l.fn.meter.refused;
  later : IsLater l.fn.meter l.meter;
  flag : IsPolled g.F.Flag.may_rise g.F.Flag.raised l.fn.flag l.flag;
}

abbrev pub decreases-loop-failure : goal.decreases-loop-failure
decreases-loop-failure g l =
    room_above l.coded (state l.z.known l.z.frames l.z.queue (g.S.Sat.count l.z.solver) (g.S.Sat.added l.z.solver))
