use Rattle.std.proofs.Common.{ℕ, ◌+◌, set, length, ◌<◌, sym, subst, ◌∙◌, arith}
use Rattle.ja_base.specs.Literals.{variable}
use Rattle.ja_project.proofs.BelowLemmas.{new_is_below}
use Rattle.ja_project.proofs.NextLemmas.{HasFirst, HasFirst-more, HasFirst-all}
use Rattle.ja_project.proofs.nexts.next_table.Goals as goal

pub loop-at-preserved : goal.loop-at-preserved
loop-at-preserved c =
    let sound = c.vars.ensures.sound in
    let latch = c.latch-latch.result in
    let fits : variable latch.lit < length c.loop-at.nexts.items = omega (
      arith,
      new_is_below c.args.design.now.vars latch.lit (sound.latches c.loop-at.at latch c.latch-latch.ensures).lit,
      c.loop-at.invariant.width,
    ) in
    let P : ℕ → Type 0 = λ v. HasFirst c.args.design.now (c.loop-at.at + 1) (set c.loop-at.nexts.items v latch.next) in
    subst P (sym (c.number.ensures ∙ c.var.ensures))
    (HasFirst-more c.args.design.now sound c.loop-at.at latch c.loop-at.nexts.items c.latch-latch.ensures fits
    c.loop-at.invariant)

pub returns-clause-nexts : goal.returns-clause-nexts
returns-clause-nexts c = HasFirst-all c.args.design.now c.loop-at.at c.loop-at.nexts.items (omega arith) c.loop-at.invariant
