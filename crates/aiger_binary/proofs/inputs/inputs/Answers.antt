use Rattle.std.proofs.Common.{◌*◌, refl, sym, ap, ◌∙◌, ◌++◌, List, ℕ, ◌∷◌, [], ◌+◌}
use Rattle.std.proofs.lemmas.List.FromFn.{map-range_with_len_more}
use Rattle.aiger_binary.proofs.inputs.inputs.Goals as goal

pub loop-input-preserved : goal.loop-input-preserved
loop-input-preserved c =
    c.in_ok-push.ensures.ok ∙ ap (λ (k : List ℕ). k ++ 2 * (1 + c.loop-input.input) ∷ []) c.loop-input.invariant
    ∙ sym (map-range_with_len_more (λ v. 2 * v) 1 c.loop-input.input (1 + c.loop-input.input) refl)
