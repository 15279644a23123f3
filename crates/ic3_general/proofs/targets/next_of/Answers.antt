use Rattle.std.proofs.Common.{◌≡◌, sym, ◌∙◌, arith}
use Rattle.ja_base.specs.Literals.{variable}
use Rattle.ic3_general.proofs.TargetLemmas.{next_found, next_passed}
use Rattle.ic3_general.proofs.targets.next_of.Goals as goal

pub returns-then-number : goal.returns-then-number
returns-then-number c =
    let same : variable c.latch-latch.result.lit ≡ variable c.args.lit = omega arith in
    c.with_sign_of.ensures
    ∙ sym (c.loop-at.invariant
    ∙ next_found c.args.design.now.latches c.loop-at.at c.args.lit c.latch-latch.result c.latch-latch.ensures same)

pub loop-at-preserved : goal.loop-at-preserved
loop-at-preserved c =
    c.loop-at.invariant
    ∙ next_passed c.args.design.now.latches c.loop-at.at c.args.lit c.latch-latch.result c.latch-latch.ensures
    (λ same. absurd (omega arith))
