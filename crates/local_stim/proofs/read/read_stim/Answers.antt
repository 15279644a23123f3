use Rattle.std.proofs.lemmas.Result.{err_from_is_err_and}
use Rattle.local_stim.proofs.StimulusLemmas.{text_takes, text_one, not_refused}
use Rattle.local_stim.proofs.read.read_stim.Goals as goal

pub returns-in_err-found-clause-not_refused : goal.returns-in_err-found-clause-not_refused
returns-in_err-found-clause-not_refused c =
    let p = err_from_is_err_and c.from_residual.result c.from_residual.ensures.1 in
    rw (p.1, p.2) (not_refused c.in_err-found.field-0.0 c.args.design.now c.args.bytes.now c.in_err-found.ensures)

pub returns-clause-found : goal.returns-clause-found
returns-clause-found c =
    text_takes c.args.design.now c.args.bytes.now c.in_ok-found.found.0 c.in_ok-found.found.1 c.in_ok-found.ensures

pub returns-clause-only : goal.returns-clause-only
returns-clause-only c =
    λ p m spelled. text_one c.args.design.now c.args.bytes.now _ p _ m
    (text_takes c.args.design.now c.args.bytes.now c.in_ok-found.found.0 c.in_ok-found.found.1 c.in_ok-found.ensures) spelled
