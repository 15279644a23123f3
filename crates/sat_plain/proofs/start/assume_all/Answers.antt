use Rattle.std.proofs.Common.{ℕ, ◌<◌, List, length, sym, ◌∙◌, ap, arith}
use Rattle.ja_base.specs.Literals.{bit, negated}
use Rattle.sat_plain.proofs.Members.{taken_is_on}
use Rattle.sat_plain.proofs.start.assume_all.Goals as goal

pub returns-then-is_true-clause-assumed : goal.returns-then-is_true-clause-assumed
returns-then-is_true-clause-assumed c =
    let under : List ℕ = c.args.under.now in
    let lit : ℕ = c.lit-item.result in
    let is = c.is_true.ensures.is in
    let within : c.loop-lit.lit-index < length under = omega arith in
    let t = ap (bit c.loop-lit.trail.values) (sym c.not.ensures) ∙ sym c.is_true.ensures.value ∙ c.if-is_true.true in (
      (c.loop-lit.lit-index, within, sym c.lit-item.is),
      taken_is_on under c.loop-lit.lit-index (negated lit)
          (c.loop-lit.invariant.1.only (negated lit) (is.only (negated lit) t)),
    )
