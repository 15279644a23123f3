use Rattle.expect_file.proofs.TextLemmas.{spells_or_is_refused}
use Rattle.expect_file.proofs.laws.spells_or_is_refused.Goals as goal

pub returns : goal.returns
returns c = spells_or_is_refused
