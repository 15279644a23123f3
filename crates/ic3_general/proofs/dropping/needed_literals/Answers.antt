use Rattle.std.proofs.Common.{ℕ, List, ◌≡◌, ◌+◌, ◌∷◌, ◌<◌, true, suc, length, get_or, drop, add-one, sym, ap, ◌∙◌, subst, arith}
use Rattle.std.proofs.Math.Seq.{drop-cons}
use Rattle.ja_base.specs.Literals.{variable}
use Rattle.aig_model.specs.Netlist.{circuit}
use Rattle.ja_project.specs.Latches.{is_over_latch}
use Rattle.ja_project.proofs.ForeignLemmas.{is_over_at, own_is_below}
use Rattle.ic3_general.specs.Dropping.{IsLifting}
use Rattle.ic3_general.proofs.DropLemmas.{lifting_starts}
use Rattle.ic3_general.proofs.dropping.needed_literals.Goals as goal

pub loop-lit-init : goal.loop-lit-init
loop-lit-init c =
    subst (λ (kept : List ℕ). IsLifting (circuit c.args.design.now) c.args.vals.now c.args.target.now c.args.first.now kept
    c.args.first.now c.args.sure.now) (sym c.new-kept.ensures)
    (lifting_starts (circuit c.args.design.now) c.args.vals.now c.args.target.now c.args.first.now c.args.sure.now
    c.lits-lit-items.ensures.ascends c.requires.leaves c.requires.makes)

pub try_literal-requires-clause-lit : goal.try_literal-requires-clause-lit
try_literal-requires-clause-lit c =
    let lit : ℕ = c.lit-item.result in
    let first : List ℕ = c.args.first.now in
    let within : c.loop-lit.lit-index < length first =
    omega (arith, ap length c.lits-lit-items.ensures.value, c.loop-lit-test.true) in
    let read : lit ≡ get_or first c.loop-lit.lit-index lit =
    c.lit-item.is ∙ ap (λ (lits : List ℕ). get_or lits c.loop-lit.lit-index lit) c.lits-lit-items.ensures.value in
    subst (λ (l : ℕ). variable l < c.args.design.now.vars + 1) (sym read)
    (own_is_below c.args.design.now c.vars-vars.ensures.sound first c.requires.own c.loop-lit.lit-index lit within)

pub loop-lit-preserved : goal.loop-lit-preserved
loop-lit-preserved c =
    let n = c.args.design.now in
    let lit : ℕ = c.lit-item.result in
    let i : ℕ = c.loop-lit.lit-index in
    let first : List ℕ = c.args.first.now in
    let within : i < length first =
    omega (arith, ap length c.lits-lit-items.ensures.value, c.loop-lit-test.true) in
    let read : lit ≡ get_or first i lit =
    c.lit-item.is ∙ ap (λ (lits : List ℕ). get_or lits i lit) c.lits-lit-items.ensures.value in
    let rest : drop i first ≡ lit ∷ drop (i + 1) first =
    drop-cons first i lit within ∙ ap (λ (l : ℕ). l ∷ drop (suc i) first) (sym read)
    ∙ ap (λ (k : ℕ). lit ∷ drop k first) (sym (add-one i)) in
    let over : is_over_latch (circuit n) lit ≡ true =
    subst (λ (l : ℕ). is_over_latch (circuit n) l ≡ true) (sym read)
    (is_over_at (circuit n) first i lit c.requires.own within) in
    c.in_ok-try_literal.ensures.lifting c.args.vals.now first (drop (i + 1) first) c.requires.step over
    (subst (λ (xs : List ℕ). IsLifting (circuit n) c.args.vals.now c.args.target.now first c.loop-lit.kept xs c.loop-lit.sure) rest
    c.loop-lit.invariant)
