use Rattle.aig_eval.proofs.LawLemmas.{agree}
use Rattle.aig_eval.proofs.laws.valuations_agree.Goals as goal

pub returns : goal.returns
returns c = λ circuit state input v w acyclic a b. agree circuit acyclic state input v w a b
