use Rattle.ja_project.proofs.StepLemmas.{clauses_mean_steps}
use Rattle.ja_project.proofs.laws.coded_clauses_mean_steps.Goals as goal

pub returns : goal.returns
returns c = clauses_mean_steps
