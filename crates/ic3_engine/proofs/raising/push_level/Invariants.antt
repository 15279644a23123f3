use Rattle.std.proofs.Common.{◌≡◌}
use Rattle.ja_outside.specs.Flags.{IsPolled}
use Rattle.sat_plain.specs.Ticks.{IsLater}
use Rattle.ic3_query.specs.Known.{all_of}
use Rattle.ic3_query.specs.Questions.{IsRoom}
use Rattle.ic3_engine.specs.Raising.{Pushes}
use Rattle.ic3_engine.proofs.raising.push_level.Given as goal

abbrev pub invariant-loop-at : goal.invariant-loop-at
invariant-loop-at g l = record {
  pushes : Pushes l.coded (all_of l.fn.z.known) l.fn.z.frames l.z.frames (g.S.Sat.count l.z.solver) (g.S.Sat.added l.z.solver);
  known : l.z.known ≡ l.fn.z.known;
  queue : l.z.queue ≡ l.fn.z.queue;
  room : IsRoom l.coded.design l.z.room.row l.z.room.vals;
  refused : l.meter.refused ≡ l.fn.meter.refused;
  later : IsLater l.fn.meter l.meter;
  flag : IsPolled g.F.Flag.may_rise g.F.Flag.raised l.fn.flag l.flag;
}
