use Rattle.std.proofs.Common.{ℕ, List}
use Rattle.aig_model.proofs.Marking.{checks_lit, checks_all}
use Rattle.aig_model.proofs.definitions.Defined.least_in.Goals as goal

pub loop-lit-preserved : goal.loop-lit-preserved
loop-lit-preserved c =
    checks_lit c.args.lits.now c.loop-lit.lit-index c.lit-item.result c.args.self.now.row c.args.least c.loop-lit.least
    c.check-least.result c.loop-lit-test.true c.lit-item.is
    c.loop-lit.invariant c.check-least.ensures

pub returns : goal.returns
returns c = checks_all (λ (ls : List ℕ). ls) c.args.lits.now c.loop-lit.lit-index c.args.self.now.row c.args.least
    c.loop-lit.least c.loop-lit-test.false c.loop-lit.invariant
