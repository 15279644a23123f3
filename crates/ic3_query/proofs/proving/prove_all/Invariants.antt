use Rattle.std.proofs.Common.{◌≡◌, ◌+◌, ◌*◌, ◌^◌}
use Rattle.ja_outside.specs.Flags.{IsPolled}
use Rattle.sat_plain.specs.Ticks.{IsLater, TicksAtMost}
use Rattle.ic3_query.proofs.ProvingLemmas.{AreProved}
use Rattle.ic3_query.proofs.proving.prove_all.Given as goal

abbrev pub invariant-loop-number : goal.invariant-loop-number
invariant-loop-number g l = record {
  count : g.S.Sat.count l.solver ≡ g.S.Sat.count l.fn.solver;
  added : g.S.Sat.added l.solver ≡ g.S.Sat.added l.fn.solver;
  proved : AreProved l.coded l.base.clauses l.candidates l.proofs l.number;
  refused : l.meter.refused ≡ l.fn.meter.refused;
  later : IsLater l.fn.meter l.meter;
  bounded : TicksAtMost l.fn.meter l.meter (l.number * (1 + 3 ^ (l.coded.design.vars + 1)));
  polled : IsPolled g.F.Flag.may_rise g.F.Flag.raised l.fn.flag l.flag;
}
