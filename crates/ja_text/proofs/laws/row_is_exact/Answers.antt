use Rattle.ja_text.proofs.RowLemmas.{row_takes, row_again, row_one, row_line}
use Rattle.ja_text.proofs.laws.row_is_exact.Goals as goal

pub returns-clause-spelled : goal.returns-clause-spelled
returns-clause-spelled c = λ most bytes numbers rest h. row_takes most bytes (numbers, rest) h

pub returns-clause-read : goal.returns-clause-read
returns-clause-read c = row_again

pub returns-clause-one : goal.returns-clause-one
returns-clause-one c = row_one

pub returns-clause-line : goal.returns-clause-line
returns-clause-line c = row_line
