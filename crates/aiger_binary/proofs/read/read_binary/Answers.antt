use Rattle.aig_model.specs.Netlist.{circuit}
use Rattle.aiger_binary.proofs.RefusalLemmas.{only_it, not_refused}
use Rattle.aiger_binary.proofs.read.read_binary.Goals as goal

pub returns-clause-only : goal.returns-clause-only
returns-clause-only c = λ d spelled. only_it circuit c.args.bytes.now c.whole.result d c.whole.ensures.found spelled

pub returns-clause-not_refused : goal.returns-clause-not_refused
returns-clause-not_refused c = λ d spelled. not_refused c.args.bytes.now c.whole.result d c.whole.ensures.refused spelled
