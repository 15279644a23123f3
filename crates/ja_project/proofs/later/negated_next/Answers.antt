use Rattle.std.proofs.Common.{◌≡◌, ◌<◌, ℕ, true, List, length, get_or, sym, subst, ap, ◌∙◌, arith}
use Rattle.aig_model.specs.Netlist.{circuit}
use Rattle.ja_project.specs.Latches.{is_over_latch}
use Rattle.ja_project.proofs.ForeignLemmas.{is_over_at}
use Rattle.ja_project.proofs.later.negated_next.Goals as goal

pub next-requires : goal.next-requires
next-requires c =
    let lit : ℕ = c.lit-item.result in
    let clause : List ℕ = c.args.clause.now in
    let within : c.loop-lit.lit-index < length clause = omega
    (arith, ap length c.lits-lit-items.ensures.value, c.loop-lit-test.true) in
    let read : lit ≡ get_or clause c.loop-lit.lit-index lit =
    c.lit-item.is ∙ ap (λ (lits : List ℕ). get_or lits c.loop-lit.lit-index lit) c.lits-lit-items.ensures.value in
    let P : ℕ → Type 0 = λ l. is_over_latch (circuit c.args.coded.now.design) l ≡ true in
    subst P (sym read) (is_over_at (circuit c.args.coded.now.design) clause c.loop-lit.lit-index lit c.requires within)
