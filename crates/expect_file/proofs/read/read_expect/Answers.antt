use Rattle.std.proofs.lemmas.Result.{err_from_is_err_and}
use Rattle.expect_file.proofs.TextLemmas.{text_takes, text_one, not_refused}
use Rattle.expect_file.proofs.read.read_expect.Goals as goal

pub returns-in_err-expect-clause-not_refused : goal.returns-in_err-expect-clause-not_refused
returns-in_err-expect-clause-not_refused c =
    let p = err_from_is_err_and c.from_residual.result c.from_residual.ensures.1 in
    rw (p.1, p.2) (not_refused c.in_err-expect.field-0.0 c.args.design.now c.args.bytes.now c.in_err-expect.ensures)

pub returns-clause-found : goal.returns-clause-found
returns-clause-found c = text_takes c.args.design.now c.args.bytes.now c.in_ok-expect.expect c.in_ok-expect.ensures

pub returns-clause-only : goal.returns-clause-only
returns-clause-only c =
    λ expected says. text_one c.args.design.now c.args.bytes.now c.in_ok-expect.expect expected
    (text_takes c.args.design.now c.args.bytes.now c.in_ok-expect.expect c.in_ok-expect.ensures) says
