use Rattle.debug_set.proofs.NamedLemmas.{first_broken_is_named}
use Rattle.debug_set.proofs.laws.first_broken_is_named.Goals as goal

pub returns : goal.returns
returns c = first_broken_is_named
