use Rattle.std.proofs.Common.{◌+◌, ◌*◌, ◌<◌, length, refl, arith}
use Rattle.ja_base.specs.Literals.{variable}
use Rattle.aig_eval.proofs.PlaceLemmas.{own_vars}
use Rattle.ic3_general.proofs.LeafLemmas.{PutsSure-more}
use Rattle.ic3_general.proofs.sure.put_gates.Goals as goal

pub loop-at-preserved : goal.loop-at-preserved
loop-at-preserved c =
    let n = c.args.design.now in
    let sound = c.gates-at-end.ensures.sound in
    let gate = c.gate.result in
    let new = (sound.gates c.loop-at.at gate c.gate.ensures).lhs in
    let fits : 2 * variable gate.lhs + 1 < length c.loop-at.sure =
    omega (arith, new.within, new.even, c.loop-at.invariant.width, c.requires) in
    rw c.put_gate.ensures
    (PutsSure-more n sound (own_vars n sound) c.loop-at.at gate c.gate.ensures c.args.sure.now c.loop-at.sure _ _ fits refl refl
    c.loop-at.invariant)
