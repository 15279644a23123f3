use Rattle.std.proofs.lemmas.Result.{err_from_is_err_and}
use Rattle.ja_text.proofs.RepeatedLemmas.{goes_on, ends, is_done}
use Rattle.aiger_lines.proofs.lines.literals.Goals as goal

pub returns-in_err-literal : goal.returns-in_err-literal
returns-in_err-literal c =
    let p = err_from_is_err_and c.from_residual.result c.from_residual.ensures.1 in
    rw (p.1, p.2) (ends c.in_err-literal.field-0.0 c.loop.invariant c.loop-test.true c.in_err-literal.ensures)

pub loop-preserved : goal.loop-preserved
loop-preserved c = rw c.in_ok-push.ensures.ok (goes_on c.loop.invariant c.loop-test.true c.in_ok-literal.ensures)

pub returns : goal.returns
returns c = is_done c.loop.invariant c.loop-test.false
