use Rattle.std.proofs.Common.{false, length, replicate, sym, ◌∙◌, arith, ext_get_or}
use Rattle.std.proofs.lemmas.List.{length-replicate, get_or-replicate}
use Rattle.aig_eval.proofs.step.clear.Goals as goal

pub returns : goal.returns
returns c =
    let before = c.args.vals.now in
    let after = c.loop-at.vals in
    ext_get_or false after (replicate (length before) false) (c.loop-at.invariant.width
    ∙ sym (length-replicate (length before) false))
    (λ k h. c.loop-at.invariant.zeros k (omega arith) ∙ sym (get_or-replicate (length before) k false false (omega arith)))
