use Rattle.std.proofs.Common.{◌+◌, ◌*◌, ◌<◌, length, arith}
use Rattle.ja_base.specs.Literals.{variable}
use Rattle.ic3_general.proofs.LeafLemmas.{Clears-more}
use Rattle.ic3_general.proofs.sure.clear_latches.Goals as goal

pub set-requires : goal.set-requires
set-requires c =
    let n = c.args.design.now in
    let latch = c.latch-lit.result in
    let new = (c.latches-at-end.ensures.sound.latches c.loop-at.at latch c.latch-lit.ensures).lit in
    omega (arith, new.within, new.even, c.loop-at.invariant.width, c.requires, c.number.ensures)

pub loop-at-preserved : goal.loop-at-preserved
loop-at-preserved c =
    let n = c.args.design.now in
    let latch = c.latch-lit.result in
    let new = (c.latches-at-end.ensures.sound.latches c.loop-at.at latch c.latch-lit.ensures).lit in
    let fits : 2 * variable latch.lit + 1 < length c.args.sure.now = omega (arith, new.within, new.even, c.requires) in
    rw (c.set-in-loop-at.ensures, c.set.ensures, c.number-in-loop-at.ensures, c.not.ensures, c.number.ensures)
    (Clears-more n.latches c.loop-at.at latch c.args.sure.now c.loop-at.sure c.latch-lit.ensures fits c.loop-at.invariant)
