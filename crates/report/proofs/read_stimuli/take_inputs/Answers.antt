use Rattle.std.proofs.lemmas.Result.{err_from_is_err_and}
use Rattle.report.specs.Sections.{row_form, next_row_form, inputs_form}
use Rattle.report.proofs.FormLemmas.{fails}
use Rattle.report.proofs.StimulusLemmas.{inputs_stop_first, inputs_stop}
use Rattle.report.proofs.read_stimuli.take_inputs.Goals as goal

pub returns-in_err-first : goal.returns-in_err-first
returns-in_err-first c =
    let p = err_from_is_err_and c.from_residual.result c.from_residual.ensures.1 in
    rw (p.1, p.2)
    (fails (row_form c.args.width) (inputs_form c.args.width) c.args.bytes.now c.args.bytes.now c.in_err-first.field-0.0
    c.in_err-first.ensures
    (λ left stop. inputs_stop_first c.args.width c.args.bytes.now left stop))

pub returns-in_err-next : goal.returns-in_err-next
returns-in_err-next c =
    let p = err_from_is_err_and c.from_residual-in_err-next.result c.from_residual-in_err-next.ensures.1 in
    rw (p.1, p.2)
    (fails (next_row_form c.args.width) (inputs_form c.args.width) c.args.bytes.now c.loop-rows.rest.now c.in_err-next.field-0.0
    c.in_err-next.ensures
    (λ left stop. inputs_stop c.args.width c.args.bytes.now c.loop-rows.rows c.loop-rows.rest.now left c.loop-rows.invariant
    stop))
