use Rattle.std.proofs.Common.{sym}
use Rattle.report.proofs.FormLemmas.{read_taken, read_missing, read_other}
use Rattle.report.proofs.JournalLemmas.{due_read, some_said}
use Rattle.report.proofs.read_journal.take_said.Goals as goal

pub returns-in_default : goal.returns-in_default
returns-in_default c =
    rw c.bad.ensures
    (read_missing (due_read c.args.props c.args.total c.args.from c.args.left)
    (some_said c.args.props c.args.total (c.args.from, c.args.left) c.ranges.total.fits c.requires)
    c.args.bytes.now c.in_default.ensures.read)

pub returns-in_default-due_of : goal.returns-in_default-due_of
returns-in_default-due_of c =
    rw c.bad-in_default-due_of.ensures
    (read_other (due_read c.args.props c.args.total c.args.from c.args.left)
    (some_said c.args.props c.args.total (c.args.from, c.args.left) c.ranges.total.fits c.requires)
    c.args.bytes.now c.in-Some.line.now c.in-Some.rest.now c.in-Some.ensures.read (sym c.in_default-due_of.ensures))

pub returns : goal.returns
returns c =
    read_taken (due_read c.args.props c.args.total c.args.from c.args.left) c.args.bytes.now c.in-Some.line.now c.in-Some.rest.now
    c.in-Some-due_of.said c.in-Some.ensures.read
    (sym c.in-Some-due_of.ensures)
