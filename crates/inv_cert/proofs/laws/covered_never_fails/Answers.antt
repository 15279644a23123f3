use Rattle.inv_cert.proofs.InductionLemmas.{covered_never_fails}
use Rattle.inv_cert.proofs.laws.covered_never_fails.Goals as goal

pub returns : goal.returns
returns c = covered_never_fails
