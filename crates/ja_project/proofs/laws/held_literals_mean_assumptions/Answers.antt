use Rattle.ja_project.proofs.HeldLemmas.{held_means_assumptions}
use Rattle.ja_project.proofs.laws.held_literals_mean_assumptions.Goals as goal

pub returns : goal.returns
returns c = held_means_assumptions
