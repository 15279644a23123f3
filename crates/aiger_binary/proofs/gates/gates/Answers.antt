use Rattle.std.proofs.Common.{◌≡◌, ◌+◌, ◌*◌, arith}
use Rattle.std.proofs.lemmas.Result.{err_from_is_err_and}
use Rattle.ja_text.proofs.RepeatedLemmas.{goes_on, ends, is_done}
use Rattle.aiger_binary.proofs.gates.gates.Goals as goal

pub returns-in_err-gate : goal.returns-in_err-gate
returns-in_err-gate c =
    let p = err_from_is_err_and c.from_residual.result c.from_residual.ensures.1 in
    rw (p.1, p.2) (ends c.in_err-gate.field-0.0 c.loop-index.invariant c.loop-index-test.true c.in_err-gate.ensures)

pub loop-index-preserved : goal.loop-index-preserved
loop-index-preserved c =
    let next : 2 * (c.args.first + (c.loop-index.index + 1)) ≡ 2 * (c.args.first + c.loop-index.index) + 2 = omega arith in
    rw (c.in_ok-push.ensures.ok, next) (goes_on c.loop-index.invariant c.loop-index-test.true c.in_ok-gate.ensures)

pub returns : goal.returns
returns c =
    let all : 2 * (c.args.first + c.args.count) ≡ 2 * (c.args.first + c.loop-index.index) = omega arith in
    rw all (is_done c.loop-index.invariant c.loop-index-test.false)
