use Rattle.aig_model.proofs.Ranges.{AreNew-push}
use Rattle.aig_model.proofs.tests.new_lits.Goals as goal

pub loop-number-preserved : goal.loop-number-preserved
loop-number-preserved g c = rw c.in_ok-push.ensures.ok (AreNew-push c.args.vars c.loop-number.lits c.new_lit.result c.loop-number.invariant c.new_lit.ensures)
