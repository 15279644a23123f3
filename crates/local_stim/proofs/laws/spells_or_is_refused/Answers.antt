use Rattle.local_stim.proofs.StimulusLemmas.{spells_or_is_refused}
use Rattle.local_stim.proofs.laws.spells_or_is_refused.Goals as goal

pub returns : goal.returns
returns c = spells_or_is_refused
