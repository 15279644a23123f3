use Rattle.std.proofs.Common.{◌≡◌, ◌+◌, ◌*◌, ◌^◌}
use Rattle.ja_outside.specs.Flags.{IsPolled}
use Rattle.sat_plain.specs.Ticks.{IsLater, TicksAtMost}
use Rattle.ic3_query.specs.Known.{all_of}
use Rattle.ic3_query.specs.Questions.{IsRoom}
use Rattle.ic3_general.specs.Shrinking.{IsShrunk}
use Rattle.ic3_general.proofs.shrinking.try_all.Given as goal

abbrev pub invariant-loop-lit : goal.invariant-loop-lit
invariant-loop-lit g l = record {
  shrunk : IsShrunk l.coded (all_of l.known) l.frames l.level l.clause l.left.clause;
  room : IsRoom l.coded.design l.room.row l.room.vals;
  count : g.S.Sat.count l.solver ≡ g.S.Sat.count l.fn.solver;
  added : g.S.Sat.added l.solver ≡ g.S.Sat.added l.fn.solver;
  refused : l.meter.refused ≡ l.fn.meter.refused;
  later : IsLater l.fn.meter l.meter;
  flag : IsPolled g.F.Flag.may_rise g.F.Flag.raised l.fn.flag l.flag;
  bounded : TicksAtMost l.fn.meter l.meter (l.lit-index * (2 * (1 + 3 ^ g.S.Sat.count l.fn.solver)));
}
