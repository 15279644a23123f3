use Rattle.local_stim.proofs.ExistLemmas.{verdict_exists}
use Rattle.local_stim.proofs.laws.verdict_exists.Goals as goal

pub returns : goal.returns
returns c = verdict_exists
