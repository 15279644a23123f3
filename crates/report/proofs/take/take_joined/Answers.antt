use Rattle.std.proofs.Common.{sym}
use Rattle.report.proofs.FormLemmas.{read_taken, read_missing, read_other}
use Rattle.report.proofs.SectionLemmas.{some_joined}
use Rattle.report.proofs.DecodeLemmas.{joined_read}
use Rattle.report.proofs.take.take_joined.Goals as goal

pub returns-in_default : goal.returns-in_default
returns-in_default c = rw c.bad.ensures (read_missing (joined_read) (some_joined) c.args.bytes.now c.in_default.ensures.read)

pub returns-in_default-joined_of : goal.returns-in_default-joined_of
returns-in_default-joined_of c =
    rw c.bad-in_default-joined_of.ensures
    (read_other (joined_read) (some_joined) c.args.bytes.now c.in-Some.line.now c.in-Some.rest.now c.in-Some.ensures.read
    (sym c.in_default-joined_of.ensures))

pub returns : goal.returns
returns c = read_taken (joined_read) c.args.bytes.now c.in-Some.line.now c.in-Some.rest.now c.in-Some-joined_of.joined
    c.in-Some.ensures.read (sym c.in-Some-joined_of.ensures)
