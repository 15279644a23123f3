use Rattle.aig_model.proofs.RefusalLemmas.{refusals_agree_lem}
use Rattle.aig_model.proofs.laws.refusals_agree.Goals as goal

pub returns : goal.returns
returns c = refusals_agree_lem
