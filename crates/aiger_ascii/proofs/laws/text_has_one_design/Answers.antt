use Rattle.aiger_ascii.proofs.RefusalLemmas.{one_circuit}
use Rattle.aiger_ascii.proofs.laws.text_has_one_design.Goals as goal

pub returns : goal.returns
returns c = one_circuit
