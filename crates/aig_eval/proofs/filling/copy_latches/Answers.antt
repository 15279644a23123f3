use Rattle.std.proofs.Common.{false, sym, ap, ◌∙◌, arith}
use Rattle.std.proofs.lemmas.List.{length-map}
use Rattle.ja_base.specs.Literals.{bit}
use Rattle.ja_base.specs.Circuit as plain
use Rattle.ja_base.specs.Valuation.{latch_row}
use Rattle.aig_model.specs.Netlist.{circuit, latch_of}
use Rattle.aig_eval.specs.Rows.{latch_var, latch_vars}
use Rattle.aig_eval.proofs.PlaceLemmas.{own_vars, map_at}
use Rattle.aig_eval.proofs.PutLemmas.{Puts-more}
use Rattle.aig_eval.proofs.DefinedLemmas.{slice_get_mapped}
use Rattle.aig_eval.proofs.ValuationLemmas.{new_is_within}
use Rattle.aig_eval.proofs.filling.copy_latches.Goals as goal

pub loop-at-preserved : goal.loop-at-preserved
loop-at-preserved c =
    let n = c.args.d.now in
    let row = c.args.row.now in
    let sound = c.latches-at-end.ensures.sound in
    let latch = c.latch.result in
    let at = c.loop-at.at in
    let var_is = c.number-var.ensures ∙ c.var.ensures in
    rw c.set.ensures (Puts-more (latch_vars n) (latch_row (circuit n) row) at c.number-var.result c.get.result c.args.vals.now
    c.loop-at.vals
    (own_vars n sound).latches (omega (arith, length-map n.latches latch_var))
    (map_at latch_var n.latches at latch 0 c.latch.ensures ∙ sym var_is)
    (c.get.ensures ∙ ap (bit row) var_is
    ∙ sym (map_at (λ (l : plain.Latch). bit row l.var) (circuit n).latches at (latch_of latch) false
    (slice_get_mapped latch_of n.latches at latch c.latch.ensures)))
    (omega (arith, new_is_within n.vars latch.lit (sound.latches at latch c.latch.ensures).lit)) c.loop-at.invariant)
