use Rattle.std.proofs.Common.{sym}
use Rattle.report.proofs.FinalLemmas.{only_report, counted, other_takes, other_none, other_no_report, some_of, none_of}
use Rattle.report.proofs.read.read_report.Goals as goal

pub returns-then-is_some-clause-refused : goal.returns-then-is_some-clause-refused
returns-then-is_some-clause-refused c =
    let found = some_of (λ x. x.now) c.other_version-other.result c.is_some.result _ (sym c.is_some.ensures) c.if-is_some.true
    c.other_version-other.ensures in
    other_takes c.args.bytes.now found.0 found.1

pub returns-then-is_some-clause-not_refused : goal.returns-then-is_some-clause-not_refused
returns-then-is_some-clause-not_refused c = other_no_report c.args.bytes.now (returns-then-is_some-clause-refused c)

pub returns-in-Ok-clause-only : goal.returns-in-Ok-clause-only
returns-in-Ok-clause-only c = only_report c.args.bytes.now c.in-Ok.report c.in-Ok.ensures

pub returns-in-Err-Refused-clause-refused : goal.returns-in-Err-Refused-clause-refused
returns-in-Err-Refused-clause-refused c =
    let none = none_of (λ x. x.now) c.other_version-other.result c.is_some.result _ (sym c.is_some.ensures) c.if-is_some.false
    c.other_version-other.ensures in
    let from = rw c.in-Err-Refused.field-0-is at c.in-Err-Refused.ensures in (
      counted c.args.bytes.now c.in-Err-Refused.bad.left c.line_number-line.result from c.line_number-line.ensures,
      other_none
          c.args.bytes.now none,
    )
