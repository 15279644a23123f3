use Rattle.std.proofs.Common.{sym}
use Rattle.report.proofs.FormLemmas.{read_taken, read_missing, read_other}
use Rattle.report.proofs.SectionLemmas.{some_sizes}
use Rattle.report.proofs.DecodeLemmas.{sizes_read}
use Rattle.report.proofs.take.take_sizes.Goals as goal

pub returns-in_default : goal.returns-in_default
returns-in_default c = rw c.bad.ensures (read_missing (sizes_read) (some_sizes) c.args.bytes.now c.in_default.ensures.read)

pub returns-in_default-sizes_of : goal.returns-in_default-sizes_of
returns-in_default-sizes_of c =
    rw c.bad-in_default-sizes_of.ensures
    (read_other (sizes_read) (some_sizes) c.args.bytes.now c.in-Some.line.now c.in-Some.rest.now c.in-Some.ensures.read
    (sym c.in_default-sizes_of.ensures))

pub returns : goal.returns
returns c = read_taken (sizes_read) c.args.bytes.now c.in-Some.line.now c.in-Some.rest.now c.in-Some-sizes_of.sizes
    c.in-Some.ensures.read (sym c.in-Some-sizes_of.ensures)
