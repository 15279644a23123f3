use Rattle.aiger_ascii.proofs.RefusalLemmas.{spells_or_is_refused}
use Rattle.aiger_ascii.proofs.laws.spells_or_is_refused.Goals as goal

pub returns : goal.returns
returns c = spells_or_is_refused
