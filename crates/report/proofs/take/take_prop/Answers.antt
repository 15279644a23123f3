use Rattle.std.proofs.Common.{sym}
use Rattle.report.proofs.FormLemmas.{read_taken, read_missing, read_other}
use Rattle.report.proofs.SectionLemmas.{some_prop}
use Rattle.report.proofs.DecodeLemmas.{prop_read}
use Rattle.report.proofs.take.take_prop.Goals as goal

pub returns-in_default : goal.returns-in_default
returns-in_default c = rw c.bad.ensures
    (read_missing (prop_read c.args.prop c.ranges.prop.fits) (some_prop c.args.prop) c.args.bytes.now c.in_default.ensures.read)

pub returns-in_default-prop_of : goal.returns-in_default-prop_of
returns-in_default-prop_of c =
    rw c.bad-in_default-prop_of.ensures
    (read_other (prop_read c.args.prop c.ranges.prop.fits) (some_prop c.args.prop) c.args.bytes.now c.in-Some.line.now
    c.in-Some.rest.now c.in-Some.ensures.read (sym c.in_default-prop_of.ensures))

pub returns : goal.returns
returns c = read_taken (prop_read c.args.prop c.ranges.prop.fits) c.args.bytes.now c.in-Some.line.now c.in-Some.rest.now
    c.in-Some-prop_of.found c.in-Some.ensures.read (sym c.in-Some-prop_of.ensures)
