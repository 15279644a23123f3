use Rattle.aig_model.proofs.RefusalLemmas.{designs_are_not_refused_lem}
use Rattle.aig_model.proofs.laws.designs_are_not_refused.Goals as goal

pub returns : goal.returns
returns c = designs_are_not_refused_lem
