use Rattle.expect_file.proofs.PartsLemmas.{parts_more, parts_last}
use Rattle.expect_file.proofs.line.cut.Goals as goal

pub returns-in-Some-clause-lines : goal.returns-in-Some-clause-lines
returns-in-Some-clause-lines c = parts_more c.args.bytes.now c.in-Some.line.now c.in-Some.rest.now c.in-Some.ensures.read

pub returns-in-None-clause-lines : goal.returns-in-None-clause-lines
returns-in-None-clause-lines c = parts_last c.args.bytes.now c.in-None.ensures.read
