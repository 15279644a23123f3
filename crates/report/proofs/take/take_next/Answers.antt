use Rattle.std.proofs.Common.{sym}
use Rattle.report.proofs.FormLemmas.{read_taken, read_missing, read_other}
use Rattle.report.proofs.SectionLemmas.{some_journal}
use Rattle.report.proofs.DecodeLemmas.{journal_read}
use Rattle.report.proofs.take.take_next.Goals as goal

pub returns-in_default : goal.returns-in_default
returns-in_default c = rw c.bad.ensures (read_missing (journal_read c.args.clauses) (some_journal c.args.clauses) c.args.bytes.now
    c.in_default.ensures.read)

pub returns-in_default-journal_of : goal.returns-in_default-journal_of
returns-in_default-journal_of c =
    rw c.bad-in_default-journal_of.ensures
    (read_other (journal_read c.args.clauses) (some_journal c.args.clauses) c.args.bytes.now c.in-Some.line.now
    c.in-Some.rest.now c.in-Some.ensures.read (sym c.in_default-journal_of.ensures))

pub returns : goal.returns
returns c = read_taken (journal_read c.args.clauses) c.args.bytes.now c.in-Some.line.now c.in-Some.rest.now
    c.in-Some-journal_of.next c.in-Some.ensures.read (sym c.in-Some-journal_of.ensures)
