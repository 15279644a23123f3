use Rattle.inv_cert.proofs.InductionLemmas.{reachable_meets}
use Rattle.inv_cert.proofs.laws.reachable_states_meet.Goals as goal

pub returns : goal.returns
returns c = reachable_meets
