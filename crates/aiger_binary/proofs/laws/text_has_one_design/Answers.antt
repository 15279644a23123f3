use Rattle.aiger_binary.proofs.RefusalLemmas.{one_circuit}
use Rattle.aiger_binary.proofs.laws.text_has_one_design.Goals as goal

pub returns : goal.returns
returns c = one_circuit
