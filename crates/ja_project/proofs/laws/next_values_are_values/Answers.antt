use Rattle.ja_project.proofs.ValueLemmas.{next_value}
use Rattle.ja_project.proofs.laws.next_values_are_values.Goals as goal

pub returns : goal.returns
returns c = λ n row l constant. next_value n.latches row l constant
