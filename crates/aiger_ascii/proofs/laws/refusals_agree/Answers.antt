use Rattle.aiger_ascii.proofs.RefusalLemmas.{one_refusal}
use Rattle.aiger_ascii.proofs.laws.refusals_agree.Goals as goal

pub returns : goal.returns
returns c = one_refusal
