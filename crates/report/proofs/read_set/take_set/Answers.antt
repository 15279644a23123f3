use Rattle.report.specs.Reports.{set_words}
use Rattle.report.specs.Sections.{IsSet}
use Rattle.report.proofs.FormLemmas.{line_taken, no_line, other_line}
use Rattle.report.proofs.SectionLemmas.{some_set}
use Rattle.report.proofs.NumbersLemmas.{set_are_words}
use Rattle.report.proofs.read_set.take_set.Goals as goal

pub returns-in_default : goal.returns-in_default
returns-in_default c =
    rw c.bad.ensures (no_line (IsSet c.args.count) set_words (set_are_words c.args.count c.ranges.count.fits)
    (some_set c.args.count) c.args.bytes.now c.in_default.ensures.read)

pub returns-in_default-2 : goal.returns-in_default-2
returns-in_default-2 c =
    let none = rw c.in_default-2.is at c.in_ok-set.ensures in
    rw c.bad-in_default-2.ensures
    (other_line (IsSet c.args.count) set_words (set_are_words c.args.count c.ranges.count.fits) (some_set c.args.count)
    c.args.bytes.now c.in-Some.line.now c.in-Some.rest.now c.in-Some.ensures.read none)

pub returns : goal.returns
returns c =
    let found = rw c.in-Some-2.is at c.in_ok-set.ensures in
    line_taken (IsSet c.args.count) set_words c.args.bytes.now c.in-Some.line.now c.in-Some.rest.now c.in-Some-2.set
    c.in-Some.ensures.read found.0 found.1
