use Rattle.aiger_lines.proofs.HeaderLemmas.{header_takes, header_again}
use Rattle.aiger_lines.proofs.laws.header_is_exact.Goals as goal

pub returns-clause-line : goal.returns-clause-line
returns-clause-line c = λ form bytes rest h e. (header_takes form bytes h rest e).0

pub returns-clause-limits : goal.returns-clause-limits
returns-clause-limits c = λ form bytes rest h e. let t = header_takes form bytes h rest e in (t.1, t.2)

pub returns-clause-read : goal.returns-clause-read
returns-clause-read c = header_again
