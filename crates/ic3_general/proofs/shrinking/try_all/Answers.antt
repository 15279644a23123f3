use Rattle.std.proofs.Common.{ℕ, ◌+◌, ◌*◌, ◌^◌, ◌∙◌, subst}
use Rattle.sat_plain.specs.Ticks.{TicksAtMost}
use Rattle.ic3_query.specs.Known.{all_of}
use Rattle.ic3_query.proofs.MeterLemmas.{later_then, polled_then, ticks_more}
use Rattle.ic3_general.proofs.CutLemmas.{shrunk_again, shrunk_itself}
use Rattle.ic3_general.proofs.shrinking.try_all.Goals as goal

pub try_drop-requires-clause-left : goal.try_drop-requires-clause-left
try_drop-requires-clause-left g c =
    shrunk_itself c.args.coded.now (all_of c.args.known.now) c.args.frames.now c.args.level c.args.clause.now
    c.loop-lit.left.clause c.loop-lit.invariant.shrunk

pub loop-lit-preserved : goal.loop-lit-preserved
loop-lit-preserved g c =
    let q : ℕ = 2 * (1 + 3 ^ g.S.Sat.count c.args.solver.now) in
    let bounded : TicksAtMost c.loop-lit.meter c.try_drop.new.meter q =
    subst (λ (n : ℕ). TicksAtMost c.loop-lit.meter c.try_drop.new.meter (2 * (1 + 3 ^ n))) c.loop-lit.invariant.count
    c.in_ok-left.ensures.bounded in
    record {
      shrunk = shrunk_again c.args.coded.now (all_of c.args.known.now) c.args.frames.now c.args.level c.args.clause.now
          c.loop-lit.left.clause c.in_ok-left.left.clause c.loop-lit.invariant.shrunk c.in_ok-left.ensures.shrunk;
      room = c.in_ok-left.ensures.room;
      count = c.in_ok-left.ensures.count ∙ c.loop-lit.invariant.count;
      added = c.in_ok-left.ensures.added ∙ c.loop-lit.invariant.added;
      refused = c.in_ok-left.ensures.charged ∙ c.loop-lit.invariant.refused;
      later = later_then c.args.meter.now c.loop-lit.meter c.try_drop.new.meter c.loop-lit.invariant.later
          c.in_ok-left.ensures.later;
      flag = polled_then g.F.Flag.may_rise g.F.Flag.raised c.args.flag.now c.loop-lit.flag c.try_drop.new.flag
          c.loop-lit.invariant.flag c.in_ok-left.ensures.flag;
      bounded = ticks_more c.args.meter.now c.loop-lit.meter c.try_drop.new.meter c.loop-lit.lit-index q
          c.loop-lit.invariant.bounded bounded;
    }
