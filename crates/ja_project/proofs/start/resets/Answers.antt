use Rattle.std.proofs.Common.{Some, ℕ, ◌-◌, ◌+◌, ◌<◌, drop, set, sym, subst, ◌∙◌, arith}
use Rattle.ja_base.specs.Literals.{variable}
use Rattle.ja_project.proofs.BelowLemmas.{new_is_below}
use Rattle.ja_project.specs.Resets.{HasResets}
use Rattle.ja_project.proofs.ResetLemmas.{HasResets-before}
use Rattle.ja_project.proofs.start.resets.Goals as goal

pub loop-at-preserved : goal.loop-at-preserved
loop-at-preserved c =
    let n = c.design-design.result.now in
    let latch = c.latch-latch.result in
    let below : variable latch.lit < n.vars + 1 =
    new_is_below n.vars latch.lit (c.vars.ensures.sound.latches (c.loop-at.at - 1) latch c.latch-latch.ensures).lit in
    let P : ℕ
    → Type 0 = λ v. HasResets (drop (c.loop-at.at - 1) n.latches) n.vars (set c.loop-at.resets.items v (Some latch.reset)) in
    subst P (sym (c.number.ensures ∙ c.var.ensures))
    (HasResets-before n.latches n.vars c.loop-at.at latch c.loop-at.resets.items (omega arith) c.latch-latch.ensures below
    c.loop-at.invariant)
