use Rattle.inv_cert.proofs.InductionLemmas.{IsInductive-append}
use Rattle.inv_cert.proofs.laws.join_is_inductive.Goals as goal

pub returns : goal.returns
returns c = IsInductive-append
