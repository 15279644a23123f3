use Rattle.aig_model.specs.declared.netlist.Latch.{Latch}
use Rattle.aig_model.specs.Definitions.{nexts}
use Rattle.aig_model.proofs.Marking.{within_at, checks_more, checks_all}
use Rattle.aig_model.proofs.definitions.Defined.least_in_latches.Goals as goal

pub check-least-requires : goal.check-least-requires
check-least-requires c = within_at (λ (k : Latch). k.next) c.args.latches.now c.loop-latch.latch-index c.latch-item.result _
    c.requires c.loop-latch-test.true c.latch-item.is

pub loop-latch-preserved : goal.loop-latch-preserved
loop-latch-preserved c =
    checks_more (λ (k : Latch). k.next) c.args.latches.now c.loop-latch.latch-index c.latch-item.result c.args.self.now.row
    c.args.least c.loop-latch.least c.check-least.result
    c.loop-latch-test.true c.latch-item.is c.loop-latch.invariant c.check-least.ensures

pub returns : goal.returns
returns c = checks_all nexts c.args.latches.now c.loop-latch.latch-index c.args.self.now.row c.args.least c.loop-latch.least
    c.loop-latch-test.false c.loop-latch.invariant
