use Rattle.ja_project.proofs.ValueLemmas.{now_value}
use Rattle.ja_project.proofs.laws.latch_values_are_values.Goals as goal

pub returns : goal.returns
returns c = λ k row l over. now_value k.latches row l over
