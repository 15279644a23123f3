use Rattle.std.proofs.Common.{take, arith}
use Rattle.ja_text.specs.Rows.{row_at}
use Rattle.ja_text.proofs.RowLemmas.{holds_more, front_more, row_goes_on, row_ends, row_lacks_number, row_lacks_end, row_is_full}
use Rattle.ja_text.proofs.numbers.row.Goals as goal

pub returns-in_err-next-clause-read : goal.returns-in_err-next-clause-read
returns-in_err-next-clause-read c =
    let l = c.loop-place in
    rw c.from_residual.ensures
    (row_lacks_number (take l.place l.places) l.place l.rest.now
    (row_at 9 c.args.bytes.now) c.loop-place-test.true c.in_err-next.ensures.read l.invariant.so_far)

pub invariant_of-result : goal.invariant_of-result
invariant_of-result c =
    let l = c.loop-place in
    (omega arith, omega arith, (holds_more l.place l.places c.in_ok-next.next c.loop-place-test.true l.invariant.holds).whole)

pub returns-in-Some-clause-read : goal.returns-in-Some-clause-read
returns-in-Some-clause-read c =
    let l = c.loop-place in
    rw (front_more l.place l.places c.in_ok-next.next c.loop-place-test.true l.invariant.holds)
    (row_ends (take l.place l.places) l.place l.rest.now c.in_ok-next.next c.in_ok-next.after.now c.in-Some.end.now
    (row_at 9 c.args.bytes.now) c.loop-place-test.true c.in_ok-next.ensures.read c.in-Some.ensures.read l.invariant.so_far)

pub returns-in_err-rest-clause-read : goal.returns-in_err-rest-clause-read
returns-in_err-rest-clause-read c =
    let l = c.loop-place in
    rw c.from_residual-in_err-rest.ensures
    (row_lacks_end (take l.place l.places) l.place l.rest.now c.in_ok-next.next c.in_ok-next.after.now
    (row_at 9 c.args.bytes.now) c.loop-place-test.true c.in_ok-next.ensures.read c.in_default.ensures.read
    c.in_err-rest.ensures.read l.invariant.so_far)

pub loop-place-preserved : goal.loop-place-preserved
loop-place-preserved c =
    let l = c.loop-place in
    record {
      holds = holds_more l.place l.places c.in_ok-next.next c.loop-place-test.true l.invariant.holds;
      so_far = rw (front_more l.place l.places c.in_ok-next.next c.loop-place-test.true l.invariant.holds)
          (row_goes_on (take l.place l.places) l.place l.rest.now c.in_ok-next.next c.in_ok-next.after.now c.in_ok-rest.rest.now
          (row_at 9 c.args.bytes.now) c.loop-place-test.true c.in_ok-next.ensures.read c.in_ok-rest.ensures.read
          l.invariant.so_far);
      shorter = omega (arith, c.in_ok-next.ensures.shorter, c.in_ok-rest.ensures.shorter);
    }

pub returns-clause-read : goal.returns-clause-read
returns-clause-read c =
    let l = c.loop-place in
    row_is_full (take l.place l.places) l.place l.rest.now (row_at 9 c.args.bytes.now) c.loop-place-test.false l.invariant.so_far
