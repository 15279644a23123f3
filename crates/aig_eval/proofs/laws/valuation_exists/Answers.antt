use Rattle.aig_eval.proofs.LawLemmas.{valuation_exists}
use Rattle.aig_eval.proofs.laws.valuation_exists.Goals as goal

pub returns : goal.returns
returns c = valuation_exists
