use Rattle.std.proofs.Common.{◌≡◌, ◌+◌, false, length}
use Rattle.ja_outside.specs.Flags.{IsPolled}
use Rattle.sat_plain.specs.Ticks.{IsLater}
use Rattle.ic3_frames.specs.Levels.{is_blocked}
use Rattle.ic3_query.specs.Questions.{IsRoom}
use Rattle.ic3_engine.specs.Searching.{HasClosed}
use Rattle.ic3_engine.specs.Turns.{IsSearching, state}
use Rattle.ic3_engine.specs.Waiting.{IsWaiting}
use Rattle.ic3_engine.proofs.descent.descend.Given as goal

abbrev pub invariant-loop-failure : goal.invariant-loop-failure
invariant-loop-failure g l = record {
  searching : IsSearching l.coded l.aim
      (state l.z.known l.z.frames l.z.queue (g.S.Sat.count l.z.solver) (g.S.Sat.added l.z.solver));
  frames : l.z.frames ≡ l.fn.z.frames;
  closed : HasClosed l.fn.z.known l.z.known;
  room : IsRoom l.coded.design l.z.room.row l.z.room.vals;
  waits : IsWaiting l.coded l.aim l.z.frames.top l.now;
  free : is_blocked l.z.frames.kept l.now.level l.now.clause ≡ false;
  queue : length l.z.queue + l.now.level ≡ length l.fn.z.queue + l.fn.first.level;
  refused : l.meter.refused ≡ l.fn.meter.refused;
  later : IsLater l.fn.meter l.meter;
  flag : IsPolled g.F.Flag.may_rise g.F.Flag.raised l.fn.flag l.flag;
}

abbrev pub decreases-loop-failure : goal.decreases-loop-failure
decreases-loop-failure g l = l.now.level
