use Rattle.std.proofs.lemmas.Result.{err_from_is_err_and}
use Rattle.report.proofs.NumbersLemmas.{not_empty}
use Rattle.report.proofs.FinalLemmas.{fails_whole, followed}
use Rattle.report.proofs.read.read_whole.Goals as goal

pub returns-in_err-report : goal.returns-in_err-report
returns-in_err-report c =
    let p = err_from_is_err_and c.from_residual.result c.from_residual.ensures.1 in
    rw (p.1, p.2) (fails_whole c.args.bytes.now c.in_err-report.field-0.0 c.in_err-report.ensures)

pub returns-then-not-is_empty : goal.returns-then-not-is_empty
returns-then-not-is_empty c =
    rw c.bad.ensures
    (followed c.args.bytes.now _ c.in_ok-report.rest.now c.in_ok-report.ensures
    (not_empty c.in_ok-report.rest.now c.is_empty.result c.is_empty.ensures c.if-not-is_empty.true))
