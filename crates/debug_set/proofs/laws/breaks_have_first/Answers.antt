use Rattle.debug_set.proofs.BreakLemmas.{breaks_have_first}
use Rattle.debug_set.proofs.laws.breaks_have_first.Goals as goal

pub returns : goal.returns
returns c = breaks_have_first
