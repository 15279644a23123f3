use Rattle.aiger_lines.proofs.SectionLemmas.{literals_take, literals_again}
use Rattle.aiger_lines.proofs.laws.literals_are_exact.Goals as goal

pub returns-clause-spelled : goal.returns-clause-spelled
returns-clause-spelled c = literals_take

pub returns-clause-read : goal.returns-clause-read
returns-clause-read c = literals_again
