use Rattle.aig_model.specs.Netlist.{circuit}
use Rattle.aig_eval.proofs.LawLemmas.{agree}
use Rattle.aig_eval.proofs.OrderLemmas.{sound_is_acyclic}
use Rattle.aig_eval.proofs.laws.valuation_is_unique.Goals as goal

pub returns : goal.returns
returns c = λ n state input v w sound a b. agree (circuit n) (sound_is_acyclic n sound) state input v w a b
