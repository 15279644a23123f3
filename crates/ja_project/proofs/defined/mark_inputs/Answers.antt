use Rattle.std.proofs.Common.{◌∙◌, arith}
use Rattle.ja_base.specs.Literals.{variable}
use Rattle.ja_project.proofs.BelowLemmas.{new_is_below}
use Rattle.ja_project.proofs.DefinedLemmas.{Marks-more, Marks-all}
use Rattle.ja_project.proofs.defined.mark_inputs.Goals as goal

pub loop-at-preserved : goal.loop-at-preserved
loop-at-preserved c =
    let sound = c.inputs-at-end.ensures.sound in
    Marks-more variable c.args.design.now.inputs c.args.defined.now c.loop-at.at c.input.result c.number.result c.loop-at.defined
    c.set.new.self c.input.ensures (c.number.ensures ∙ c.var.ensures)
    (omega (
      arith,
      new_is_below c.args.design.now.vars c.input.result (sound.inputs c.loop-at.at c.input.result c.input.ensures),
      c.number.ensures,
      c.var.ensures,
    )) c.set.ensures c.loop-at.invariant

pub returns : goal.returns
returns c = Marks-all variable c.args.design.now.inputs c.args.defined.now c.loop-at.at c.loop-at.defined
    (omega arith) c.loop-at.invariant
