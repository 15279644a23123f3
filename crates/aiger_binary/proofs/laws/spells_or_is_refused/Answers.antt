use Rattle.aiger_binary.proofs.RefusalLemmas.{spells_or_is_refused}
use Rattle.aiger_binary.proofs.laws.spells_or_is_refused.Goals as goal

pub returns : goal.returns
returns c = spells_or_is_refused
