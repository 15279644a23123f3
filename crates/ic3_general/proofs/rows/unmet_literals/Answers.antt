use Rattle.std.proofs.Common.{List, ℕ, [], ◌∷◌, ◌++◌, map, take, sym, ap, ◌∙◌}
use Rattle.ic3_general.specs.Cubes.{unmet_literal}
use Rattle.ic3_general.proofs.RowLemmas.{mapped_more}
use Rattle.ic3_general.proofs.rows.unmet_literals.Goals as goal

pub loop-at-preserved : goal.loop-at-preserved
loop-at-preserved c =
    let f = unmet_literal c.args.vals.now in
    let before : List ℕ = map f (take c.loop-at.at c.args.design.now.latches) in
    c.in_ok-push.ensures.ok ∙ ap (λ (xs : List ℕ). xs ++ c.unmet_literal.result ∷ []) c.loop-at.invariant
    ∙ ap (λ l. before ++ l ∷ []) c.unmet_literal.ensures
    ∙ sym (mapped_more f c.args.design.now.latches c.loop-at.at c.latch.result c.latch.ensures)
