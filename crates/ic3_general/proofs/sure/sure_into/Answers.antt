use Rattle.std.proofs.Common.{ℕ, List, ◌≡◌, ◌+◌, ◌*◌, ◌<◌, ◌||◌, length, sym, ap, ◌∙◌, subst, arith}
use Rattle.std.specs.Prelude.{All}
use Rattle.std.proofs.lemmas.List.Elements.{All-weaker}
use Rattle.ja_base.specs.Literals.{bit, variable, negated}
use Rattle.ja_base.specs.Clauses.{has_literal}
use Rattle.ja_project.proofs.ForeignLemmas.{own_is_below}
use Rattle.ic3_general.proofs.LeafLemmas.{has_leaves}
use Rattle.ic3_general.proofs.sure.sure_into.Goals as goal

pub mark_negated-requires : goal.mark_negated-requires
mark_negated-requires c =
    let n = c.args.design.now in
    let width : length c.clear_latches.new.sure ≡ 2 * (n.vars + 1) =
    c.clear_latches.ensures.width ∙ c.put_values.ensures.width ∙ c.requires.sure in
    subst (λ (lits : List ℕ). All (λ l. 2 * variable l + 1 < length c.clear_latches.new.sure) lits) (sym c.lits.ensures.value)
    (All-weaker (λ l. variable l < n.vars + 1) (λ l. 2 * variable l + 1 < length c.clear_latches.new.sure)
    (λ l below. omega arith) c.args.clause.now
    (own_is_below n c.clear_latches.ensures.sound c.args.clause.now c.requires.own))

pub returns : goal.returns
returns c =
    let n = c.args.design.now in
    let width : length c.mark_negated.new.sure ≡ 2 * (n.vars + 1) =
    c.mark_negated.ensures.width ∙ c.clear_latches.ensures.width ∙ c.put_values.ensures.width ∙ c.requires.sure in
    c.settle.ensures.sure c.args.vals.now c.args.clause.now
    (has_leaves n c.args.vals.now c.args.clause.now c.put_values.new.sure c.clear_latches.new.sure c.mark_negated.new.sure width
    c.requires.own (λ l below. c.put_values.ensures.put l (omega (arith, c.requires.vals))) c.clear_latches.ensures.cleared
    (λ l. c.mark_negated.ensures.marked l
    ∙ ap (λ (lits : List ℕ). bit c.clear_latches.new.sure l || has_literal lits (negated l)) c.lits.ensures.value))
