use Rattle.std.proofs.Common.{sym, ◌∙◌}
use Rattle.report.proofs.FormLemmas.{read_taken, read_missing, read_other}
use Rattle.report.proofs.SectionLemmas.{some_next_row}
use Rattle.report.proofs.DecodeLemmas.{next_row_read}
use Rattle.report.proofs.take.take_next_row.Goals as goal

pub returns-in_default : goal.returns-in_default
returns-in_default c = rw c.bad.ensures (read_missing (next_row_read c.args.width) (some_next_row c.args.width) c.args.bytes.now
    c.in_default.ensures.read)

pub returns-in_default-2 : goal.returns-in_default-2
returns-in_default-2 c =
    let none = sym c.in_ok-row.ensures ∙ c.in_default-2.is in
    rw c.bad-in_default-2.ensures (read_other (next_row_read c.args.width) (some_next_row c.args.width) c.args.bytes.now
    c.in-Some.line.now c.in-Some.rest.now c.in-Some.ensures.read none)

pub returns : goal.returns
returns c =
    let found = sym c.in_ok-row.ensures ∙ c.in-Some-2.is in
    read_taken (next_row_read c.args.width) c.args.bytes.now c.in-Some.line.now c.in-Some.rest.now c.in-Some-2.row
    c.in-Some.ensures.read found
