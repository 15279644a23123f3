use Rattle.std.proofs.Common.{◌≡◌, ℕ, true, sym, ◌∙◌, subst}
use Rattle.std.specs.Prelude.{All}
use Rattle.std.proofs.lemmas.List.{take_all}
use Rattle.std.proofs.lemmas.List.Elements.{All-more}
use Rattle.ja_base.specs.Literals.{value}
use Rattle.ic3_general.proofs.tests.is_met.Goals as goal

pub loop-lit-preserved : goal.loop-lit-preserved
loop-lit-preserved c =
    let IsOne : ℕ → Type 0 = λ m. value c.args.vals.now m ≡ true in
    All-more IsOne c.args.target.now c.loop-lit.lit-index c.lit-item.result c.loop-lit-test.true c.loop-lit.invariant
    (subst IsOne c.lit-item.is (sym c.lit_of.ensures ∙ c.if-not-lit_of.false))

pub returns : goal.returns
returns c =
    let IsOne : ℕ → Type 0 = λ m. value c.args.vals.now m ≡ true in
    subst (All IsOne) (take_all c.loop-lit.lit-index c.args.target.now c.loop-lit-test.false) c.loop-lit.invariant
