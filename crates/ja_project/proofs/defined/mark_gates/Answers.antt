use Rattle.std.proofs.Common.{◌∙◌, arith}
use Rattle.aig_model.specs.Netlist.{gate_var}
use Rattle.ja_project.proofs.BelowLemmas.{new_is_below}
use Rattle.ja_project.proofs.DefinedLemmas.{Marks-more, Marks-all}
use Rattle.ja_project.proofs.defined.mark_gates.Goals as goal

pub loop-at-preserved : goal.loop-at-preserved
loop-at-preserved c =
    let sound = c.gates-at-end.ensures.sound in
    Marks-more gate_var c.args.design.now.gates c.args.defined.now c.loop-at.at c.gate.result c.number.result c.loop-at.defined
    c.set.new.self c.gate.ensures (c.number.ensures ∙ c.var.ensures)
    (omega (
      arith,
      new_is_below c.args.design.now.vars c.gate.result.lhs
          (sound.gates c.loop-at.at c.gate.result c.gate.ensures).lhs,
      c.number.ensures,
      c.var.ensures,
    )) c.set.ensures
    c.loop-at.invariant

pub returns : goal.returns
returns c = Marks-all gate_var c.args.design.now.gates c.args.defined.now c.loop-at.at c.loop-at.defined
    (omega arith) c.loop-at.invariant
