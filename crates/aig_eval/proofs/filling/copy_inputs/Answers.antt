use Rattle.std.proofs.Common.{false, sym, ap, ◌∙◌, arith}
use Rattle.std.proofs.lemmas.List.{length-map}
use Rattle.ja_base.specs.Literals.{bit, variable}
use Rattle.ja_base.specs.Valuation.{input_row}
use Rattle.aig_model.specs.Netlist.{circuit}
use Rattle.aig_eval.specs.Rows.{input_vars}
use Rattle.aig_eval.proofs.PlaceLemmas.{own_vars, map_at}
use Rattle.aig_eval.proofs.PutLemmas.{Puts-more}
use Rattle.aig_eval.proofs.DefinedLemmas.{slice_get_mapped}
use Rattle.aig_eval.proofs.ValuationLemmas.{new_is_within}
use Rattle.aig_eval.proofs.filling.copy_inputs.Goals as goal

pub loop-at-preserved : goal.loop-at-preserved
loop-at-preserved c =
    let n = c.args.d.now in
    let row = c.args.row.now in
    let sound = c.inputs-at-end.ensures.sound in
    let lit = c.input.result in
    let at = c.loop-at.at in
    let var_is = c.number-var.ensures ∙ c.var.ensures in
    rw c.set.ensures (Puts-more (input_vars n) (input_row (circuit n) row) at c.number-var.result c.get.result c.args.vals.now
    c.loop-at.vals
    (own_vars n sound).inputs (omega (arith, length-map n.inputs variable)) (map_at variable n.inputs at lit 0 c.input.ensures
    ∙ sym var_is)
    (c.get.ensures ∙ ap (bit row) var_is
    ∙ sym (map_at (bit row) (input_vars n) at (variable lit) false (slice_get_mapped variable n.inputs at lit c.input.ensures)))
    (omega (arith, new_is_within n.vars lit (sound.inputs at lit c.input.ensures))) c.loop-at.invariant)
