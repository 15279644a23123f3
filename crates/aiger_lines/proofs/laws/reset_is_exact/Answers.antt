use Rattle.aiger_lines.proofs.SectionLemmas.{reset_takes, reset_again}
use Rattle.aiger_lines.proofs.laws.reset_is_exact.Goals as goal

pub returns-clause-spelled : goal.returns-clause-spelled
returns-clause-spelled c = reset_takes

pub returns-clause-read : goal.returns-clause-read
returns-clause-read c = reset_again
