use Rattle.std.proofs.Common.{true, sym, subst}
use Rattle.std.proofs.lemmas.Result.{err_from_is_err_and}
use Rattle.report.specs.Forms.{Fails}
use Rattle.report.specs.Sections.{stimulus_form, where_form}
use Rattle.report.proofs.FormLemmas.{fails}
use Rattle.report.proofs.StimulusLemmas.{where_stops}
use Rattle.report.proofs.read_stimuli.take_where.Goals as goal

pub returns-in_err-stimulus : goal.returns-in_err-stimulus
returns-in_err-stimulus c =
    let p = err_from_is_err_and c.from_residual.result c.from_residual.ensures.1 in
    let e = c.in_err-stimulus.field-0.0 in
    rw (p.1, p.2)
    (subst (λ b. Fails (where_form b c.args.sizes c.args.prop) c.args.bytes.now e) (sym c.if-not-fails.false)
    (fails (stimulus_form c.args.sizes c.args.prop) (where_form true c.args.sizes c.args.prop) c.args.bytes.now c.args.bytes.now e
    c.in_err-stimulus.ensures
    (λ left stop. where_stops c.args.sizes c.args.prop c.args.bytes.now left stop)))
