use Rattle.inv_cert.proofs.InductionLemmas.{assumptions_discharge}
use Rattle.inv_cert.proofs.laws.assumptions_discharge.Goals as goal

pub returns : goal.returns
returns c = assumptions_discharge
