use Rattle.std.proofs.Common.{◌≡◌}
use Rattle.ja_outside.specs.Flags.{IsPolled}
use Rattle.sat_plain.specs.Ticks.{IsLater}
use Rattle.ic3_engine.specs.Engines.{IsReadyFor}
use Rattle.ic3_engine.proofs.OwnLemmas.{unset}
use Rattle.ic3_engine.proofs.own.prove_own.Given as goal

abbrev pub invariant-loop-found : goal.invariant-loop-found
invariant-loop-found g l = record {
  ready : IsReadyFor g.S.Sat.count g.S.Sat.added l.coded l.engine;
  refused : l.meter.refused ≡ l.fn.meter.refused;
  later : IsLater l.fn.meter l.meter;
  share_task : g.H.Share.task l.share ≡ g.H.Share.task l.fn.share;
  share_later : g.H.Share.later l.fn.share l.share;
  flag : IsPolled g.F.Flag.may_rise g.F.Flag.raised l.fn.flag l.flag;
}

abbrev pub decreases-loop-found : goal.decreases-loop-found
decreases-loop-found g l = unset l.engine.failed
