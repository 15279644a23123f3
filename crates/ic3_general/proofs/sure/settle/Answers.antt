use Rattle.ic3_general.proofs.LeafLemmas.{sure_row}
use Rattle.ic3_general.proofs.sure.settle.Goals as goal

pub returns-clause-sure : goal.returns-clause-sure
returns-clause-sure c values clause leaves =
    sure_row c.args.design.now c.put_gates.ensures.sound values clause c.args.sure.now c.put_gates.new.sure leaves
    c.put_gates.ensures.gates
