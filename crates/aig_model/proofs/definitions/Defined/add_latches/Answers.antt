use Rattle.ja_base.specs.Literals.{variable}
use Rattle.aig_model.specs.declared.netlist.Latch.{Latch}
use Rattle.aig_model.proofs.Marking.{within_at, adds_more, adds_all}
use Rattle.aig_model.proofs.definitions.Defined.add_latches.Goals as goal

pub add-requires : goal.add-requires
add-requires c =
    let within = within_at (λ (k : Latch). k.lit) c.args.latches.now c.loop-latch.latch-index c.latch-item.result _ c.requires
    c.loop-latch-test.true c.latch-item.is in
    rw (c.var.ensures, c.loop-latch.invariant.width) within

pub loop-latch-preserved : goal.loop-latch-preserved
loop-latch-preserved c =
    adds_more (λ (k : Latch). variable k.lit) c.args.latches.now c.loop-latch.latch-index c.latch-item.result c.var.result
    c.args.self.now c.loop-latch.self c.add.new.self c.loop-latch-test.true
    c.latch-item.is c.var.ensures c.loop-latch.invariant c.add.ensures

pub returns : goal.returns
returns c = adds_all (λ (k : Latch). variable k.lit) c.args.latches.now c.loop-latch.latch-index c.args.self.now c.loop-latch.self
    c.loop-latch-test.false c.loop-latch.invariant
