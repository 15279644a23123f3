use Rattle.std.proofs.Common.{◌++◌, ◌∷◌, [], List, Bool, take, sym, ap, ◌∙◌, add-one}
use Rattle.std.proofs.Math.Seq.{take-suc}
use Rattle.std.proofs.lemmas.Option.{get_or_from_slice_get, slice_get_within}
use Rattle.ic3_general.proofs.failing.beginning.Goals as goal

pub loop-at-preserved : goal.loop-at-preserved
loop-at-preserved c =
    let rows : List (List Bool) = c.args.rows.now in
    let is = c.get-in-loop-at.ensures in
    let row : List Bool = c.get-in-loop-at.result.now in
    let same = c.in_ok-copy-2.ensures ∙ sym (get_or_from_slice_get rows c.loop-at.at row row is) in
    c.in_ok-push.ensures.ok ∙ ap (λ (xs : List (List Bool)). xs ++ c.in_ok-copy-2.field-0 ∷ []) c.loop-at.invariant
    ∙ ap (λ (x : List Bool). take c.loop-at.at rows ++ x ∷ []) same
    ∙ sym (ap (λ n. take n rows) (add-one c.loop-at.at)
    ∙ take-suc rows c.loop-at.at row (slice_get_within rows c.loop-at.at row is))
