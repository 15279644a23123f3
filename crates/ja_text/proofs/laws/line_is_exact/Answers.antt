use Rattle.ja_text.proofs.LineLemmas.{line_takes, line_again, line_none, line_missing, line_one}
use Rattle.ja_text.proofs.laws.line_is_exact.Goals as goal

pub returns-clause-spelled : goal.returns-clause-spelled
returns-clause-spelled c = λ bytes text rest h. line_takes bytes (text, rest) h

pub returns-clause-read : goal.returns-clause-read
returns-clause-read c = line_again

pub returns-clause-none : goal.returns-clause-none
returns-clause-none c = λ bytes. (line_none bytes, line_missing bytes)

pub returns-clause-one : goal.returns-clause-one
returns-clause-one c = line_one
