use Rattle.inv_cert.proofs.TakenLemmas.{proofs_are_taken}
use Rattle.inv_cert.proofs.laws.proofs_are_taken.Goals as goal

pub returns : goal.returns
returns c = λ t base candidates proofs r all have refused. proofs_are_taken t base candidates proofs r all have refused
