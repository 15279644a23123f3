use Rattle.std.proofs.Common.{sym, ◌∙◌, arith}
use Rattle.std.proofs.lemmas.List.{length-map}
use Rattle.ja_base.specs.Literals.{variable}
use Rattle.aig_eval.specs.Rows.{input_vars}
use Rattle.aig_eval.proofs.PlaceLemmas.{own_vars, map_at}
use Rattle.aig_eval.proofs.PutLemmas.{Puts-more}
use Rattle.aig_eval.proofs.ValuationLemmas.{new_is_within}
use Rattle.aig_eval.proofs.step.put_inputs.Goals as goal

pub loop-at-preserved : goal.loop-at-preserved
loop-at-preserved c =
    let n = c.args.d.now in
    let sound = c.inputs-at-end.ensures.sound in
    rw c.set.ensures (Puts-more (input_vars n) c.args.inputs.now c.loop-at.at c.number.result c.get.result c.args.vals.now
    c.loop-at.vals
    (own_vars n sound).inputs (omega (arith, length-map n.inputs variable))
    (map_at variable n.inputs c.loop-at.at c.input.result 0 c.input.ensures ∙ sym (c.number.ensures ∙ c.var.ensures))
    c.get.ensures (omega (arith, new_is_within n.vars c.input.result (sound.inputs c.loop-at.at c.input.result c.input.ensures)))
    c.loop-at.invariant)
