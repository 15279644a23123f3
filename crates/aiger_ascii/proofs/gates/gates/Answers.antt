use Rattle.std.proofs.lemmas.Result.{err_from_is_err_and}
use Rattle.std.proofs.Common.{arith}
use Rattle.ja_text.proofs.RepeatedLemmas.{goes_on, ends, is_done}
use Rattle.aiger_ascii.proofs.gates.gates.Goals as goal

pub returns-in_err-gate-clause-read : goal.returns-in_err-gate-clause-read
returns-in_err-gate-clause-read c =
    let p = err_from_is_err_and c.from_residual.result c.from_residual.ensures.1 in
    rw (p.1, p.2) (ends c.in_err-gate.field-0.0 c.loop.invariant.underway c.loop-test.true c.in_err-gate.ensures.read)

pub loop-preserved : goal.loop-preserved
loop-preserved c = record {
  underway = rw c.in_ok-push.ensures.ok (goes_on c.loop.invariant.underway c.loop-test.true c.in_ok-gate.ensures.read);
  sized = omega (arith, c.in_ok-gate.ensures.sized);
}

pub returns-clause-read : goal.returns-clause-read
returns-clause-read c = is_done c.loop.invariant.underway c.loop-test.false
