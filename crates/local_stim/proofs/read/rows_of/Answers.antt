use Rattle.std.proofs.Common.{◌+◌, arith}
use Rattle.std.proofs.lemmas.Result.{err_from_is_err_and}
use Rattle.local_stim.proofs.RowLemmas.{goes_on, ends, fails, full_ends, full_fails}
use Rattle.local_stim.proofs.read.rows_of.Goals as goal

pub returns-in_err-next_row : goal.returns-in_err-next_row
returns-in_err-next_row c =
    let p = err_from_is_err_and c.from_residual-in_err-next_row.result c.from_residual-in_err-next_row.ensures.1 in
    rw (p.1, p.2) (fails c.in_err-next_row.field-0.0 c.loop-done.rows c.args.width c.args.most c.loop-done.done
    (5 + c.loop-done.done) c.loop-done.rest.now _ c.loop-done-test.true c.in_err-next_row.ensures c.loop-done.invariant)

pub returns-in-None : goal.returns-in-None
returns-in-None c =
    let none_left = rw c.in-None.is at c.in_ok-next_row.ensures in
    ends c.loop-done.rows c.args.width c.args.most c.loop-done.done
    (5 + c.loop-done.done) c.loop-done.rest.now _ c.loop-done-test.true none_left c.loop-done.invariant

pub loop-done-preserved : goal.loop-done-preserved
loop-done-preserved c =
    let found = rw c.in-Some.is at c.in_ok-next_row.ensures in
    rw (c.in_ok-push-in-Some.ensures).ok
    (goes_on c.loop-done.rows c.args.width c.args.most c.loop-done.done (5 + c.loop-done.done)
    (5 + (c.loop-done.done + 1)) c.loop-done.rest.now c.in-Some.row c.in-Some.after.now _ c.loop-done-test.true
    (omega arith) found c.loop-done.invariant)

pub returns-in_err-dot_at : goal.returns-in_err-dot_at
returns-in_err-dot_at c =
    let p = err_from_is_err_and c.from_residual-in_err-dot_at.result c.from_residual-in_err-dot_at.ensures.1 in
    rw (p.1, p.2) (full_fails c.in_err-dot_at.field-0.0 c.loop-done.rows c.args.width c.args.most c.loop-done.done
    (5 + c.loop-done.done) (5 + c.args.most) c.loop-done.rest.now _ c.loop-done-test.false
    (omega arith) c.in_err-dot_at.ensures c.loop-done.invariant)

pub returns : goal.returns
returns c = full_ends c.loop-done.rows c.args.width c.args.most c.loop-done.done (5 + c.loop-done.done)
    (5 + c.args.most) c.loop-done.rest.now _ c.loop-done-test.false (omega arith) c.in_ok-dot_at.ensures c.loop-done.invariant
