use Rattle.check_closed.proofs.BelowLemmas.{on_below}
use Rattle.check_closed.proofs.candidates.is_below.Goals as goal

pub returns : goal.returns
returns c = on_below c.args.vars c.args.lits.now c.are_below.result c.are_below.ensures
