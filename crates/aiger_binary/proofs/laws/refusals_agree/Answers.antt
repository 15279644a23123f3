use Rattle.aiger_binary.proofs.RefusalLemmas.{one_refusal}
use Rattle.aiger_binary.proofs.laws.refusals_agree.Goals as goal

pub returns : goal.returns
returns c = one_refusal
