use Rattle.aiger_lines.proofs.TailLemmas.{bad_line_one, tail_has_none}
use Rattle.aiger_lines.proofs.TailCases.{tail_cases}
use Rattle.aiger_lines.proofs.laws.tail_is_exact.Goals as goal

pub returns-clause-some : goal.returns-clause-some
returns-clause-some c = tail_cases

pub returns-clause-one : goal.returns-clause-one
returns-clause-one c = bad_line_one

pub returns-clause-none : goal.returns-clause-none
returns-clause-none c = tail_has_none
