use Rattle.ja_base.specs.Literals.{variable}
use Rattle.aig_model.proofs.Marking.{adds_more, adds_all}
use Rattle.aig_model.proofs.definitions.Defined.add_inputs.Goals as goal

pub loop-input-preserved : goal.loop-input-preserved
loop-input-preserved c =
    adds_more variable c.args.inputs.now c.loop-input.input-index c.input-item.result c.var.result c.args.self.now
    c.loop-input.self c.add.new.self c.loop-input-test.true
    c.input-item.is c.var.ensures c.loop-input.invariant c.add.ensures

pub returns : goal.returns
returns c = adds_all variable c.args.inputs.now c.loop-input.input-index c.args.self.now c.loop-input.self c.loop-input-test.false
    c.loop-input.invariant
