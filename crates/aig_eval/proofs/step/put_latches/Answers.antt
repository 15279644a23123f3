use Rattle.std.proofs.Common.{sym, ◌∙◌, arith}
use Rattle.std.proofs.lemmas.List.{length-map}
use Rattle.aig_eval.specs.Rows.{latch_var, latch_vars}
use Rattle.aig_eval.proofs.PlaceLemmas.{own_vars, map_at}
use Rattle.aig_eval.proofs.PutLemmas.{Puts-more}
use Rattle.aig_eval.proofs.ValuationLemmas.{new_is_within}
use Rattle.aig_eval.proofs.step.put_latches.Goals as goal

pub loop-at-preserved : goal.loop-at-preserved
loop-at-preserved c =
    let n = c.args.d.now in
    let sound = c.latches-at-end.ensures.sound in
    let latch = c.latch.result in
    rw c.set.ensures (Puts-more (latch_vars n) c.args.latches.now c.loop-at.at c.number.result c.get.result c.args.vals.now
    c.loop-at.vals
    (own_vars n sound).latches (omega (arith, length-map n.latches latch_var))
    (map_at latch_var n.latches c.loop-at.at latch 0 c.latch.ensures ∙ sym (c.number.ensures ∙ c.var.ensures))
    c.get.ensures (omega (arith, new_is_within n.vars latch.lit (sound.latches c.loop-at.at latch c.latch.ensures).lit))
    c.loop-at.invariant)
