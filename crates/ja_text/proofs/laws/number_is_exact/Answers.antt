use Rattle.ja_text.proofs.NumberLemmas.{number_takes, number_again, number_none, number_missing, number_one}
use Rattle.ja_text.proofs.laws.number_is_exact.Goals as goal

pub returns-clause-spelled : goal.returns-clause-spelled
returns-clause-spelled c = λ bytes rest n h. number_takes bytes n rest h

pub returns-clause-read : goal.returns-clause-read
returns-clause-read c = number_again

pub returns-clause-none : goal.returns-clause-none
returns-clause-none c = λ bytes. (number_none bytes, number_missing bytes)

pub returns-clause-one : goal.returns-clause-one
returns-clause-one c = number_one
