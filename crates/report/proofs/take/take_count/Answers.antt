use Rattle.std.proofs.Common.{sym}
use Rattle.report.proofs.FormLemmas.{read_taken, read_missing, read_other}
use Rattle.report.proofs.SectionLemmas.{some_count}
use Rattle.report.proofs.DecodeLemmas.{count_read}
use Rattle.report.proofs.take.take_count.Goals as goal

pub returns-in_default : goal.returns-in_default
returns-in_default c = rw c.bad.ensures
    (read_missing (count_read c.args.word.now c.requires) (some_count c.args.word.now) c.args.bytes.now c.in_default.ensures.read)

pub returns-in_default-count_of : goal.returns-in_default-count_of
returns-in_default-count_of c =
    rw c.bad-in_default-count_of.ensures
    (read_other (count_read c.args.word.now c.requires) (some_count c.args.word.now) c.args.bytes.now c.in-Some.line.now
    c.in-Some.rest.now c.in-Some.ensures.read (sym c.in_default-count_of.ensures))

pub returns : goal.returns
returns c = read_taken (count_read c.args.word.now c.requires) c.args.bytes.now c.in-Some.line.now c.in-Some.rest.now
    c.in-Some-count_of.count c.in-Some.ensures.read (sym c.in-Some-count_of.ensures)
