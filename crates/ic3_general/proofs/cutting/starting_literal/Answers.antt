use Rattle.std.proofs.Common.{◌≡◌, ◌+◌, ◌<◌, ℕ, List, length, get_or, sym, ap, ◌∙◌, subst, arith}
use Rattle.ja_base.specs.Literals.{variable}
use Rattle.ic3_general.proofs.cutting.starting_literal.Goals as goal

pub literal_starts-requires : goal.literal_starts-requires
literal_starts-requires c =
    let lit : ℕ = c.lit-item.result in
    let clause : List ℕ = c.args.clause.now in
    let within : c.loop-lit.lit-index < length clause =
    omega (arith, ap length c.lits-lit-items.ensures.value, c.loop-lit-test.true) in
    let read : lit ≡ get_or clause c.loop-lit.lit-index lit =
    c.lit-item.is ∙ ap (λ (lits : List ℕ). get_or lits c.loop-lit.lit-index lit) c.lits-lit-items.ensures.value in
    subst (λ (l : ℕ). variable l < c.args.table.now.vars + 1) (sym read)
    (c.requires.below c.loop-lit.lit-index lit within)
