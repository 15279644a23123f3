use Rattle.expect_file.proofs.TextLemmas.{text_takes, text_again, text_one}
use Rattle.expect_file.proofs.laws.expectations_text_is_exact.Goals as goal

pub returns-clause-spelled : goal.returns-clause-spelled
returns-clause-spelled c = text_takes

pub returns-clause-read : goal.returns-clause-read
returns-clause-read c = text_again

pub returns-clause-one : goal.returns-clause-one
returns-clause-one c = text_one
