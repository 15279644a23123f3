use Rattle.debug_set.proofs.PrefixLemmas.{first_broken_fails_locally}
use Rattle.debug_set.proofs.laws.first_broken_fails_locally.Goals as goal

pub returns : goal.returns
returns c = first_broken_fails_locally
