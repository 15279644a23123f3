use Rattle.std.proofs.Common.{◌∙◌, arith}
use Rattle.ja_base.specs.Literals.{variable}
use Rattle.aig_model.specs.declared.netlist.Latch.{Latch}
use Rattle.ja_project.proofs.BelowLemmas.{new_is_below}
use Rattle.ja_project.proofs.DefinedLemmas.{Marks-more, Marks-all}
use Rattle.ja_project.proofs.defined.mark_latches.Goals as goal

pub loop-at-preserved : goal.loop-at-preserved
loop-at-preserved c =
    let sound = c.latches-at-end.ensures.sound in
    Marks-more (λ (k : Latch). variable k.lit) c.args.design.now.latches c.args.defined.now c.loop-at.at c.latch.result
    c.number.result c.loop-at.defined c.set.new.self c.latch.ensures (c.number.ensures ∙ c.var.ensures)
    (omega (
      arith,
      new_is_below c.args.design.now.vars c.latch.result.lit
          (sound.latches c.loop-at.at c.latch.result c.latch.ensures).lit,
      c.number.ensures,
      c.var.ensures,
    )) c.set.ensures
    c.loop-at.invariant

pub returns : goal.returns
returns c = Marks-all (λ (k : Latch). variable k.lit) c.args.design.now.latches c.args.defined.now c.loop-at.at c.loop-at.defined
    (omega arith) c.loop-at.invariant
