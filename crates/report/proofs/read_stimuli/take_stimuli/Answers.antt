use Rattle.std.proofs.Common.{◌<◌, ◌^◌, length, arith, subst}
use Rattle.std.proofs.lemmas.Result.{err_from_is_err_and}
use Rattle.report.specs.Findings.{marks_of}
use Rattle.report.specs.Forms.{Fails, Takes}
use Rattle.report.specs.Sections.{where_form, stimuli_form}
use Rattle.report.proofs.FormLemmas.{fails}
use Rattle.report.proofs.StimulusLemmas.{stimuli_more, stimuli_end, stimuli_done}
use Rattle.report.proofs.read_stimuli.take_stimuli.Goals as goal

pub returns-in_err-rest : goal.returns-in_err-rest
returns-in_err-rest c =
    let p = err_from_is_err_and c.from_residual.result c.from_residual.ensures.1 in
    let i = c.loop-prop.prop in
    let line = c.get.result.now in
    let e = c.in_err-rest.field-0.0 in
    let small : length c.args.lines.now < 2 ^ 32 = omega (arith, c.len-prop-end.type_inv, c.len-prop-end.ensures) in
    let stopped = subst (λ b. Fails (where_form b c.args.sizes i) c.loop-prop.rest.now e) c.does_fail-fails.ensures
    c.in_err-rest.ensures in
    rw (p.1, p.2)
    (fails (where_form _ c.args.sizes i) (stimuli_form c.args.sizes 0 (marks_of c.args.lines.now)) c.args.bytes.now
    c.loop-prop.rest.now e stopped
    (λ left stop. stimuli_end c.args.sizes c.args.lines.now c.args.bytes.now i line c.loop-prop.stimuli c.loop-prop.rest.now left
    small c.get.ensures c.loop-prop.invariant stop))

pub loop-prop-preserved : goal.loop-prop-preserved
loop-prop-preserved c =
    let i = c.loop-prop.prop in
    let line = c.get.result.now in
    let added = c.in_ok-rest.ensures in
    let taken = subst (λ b. Takes (where_form b c.args.sizes i) c.loop-prop.rest.now added.0 c.in_ok-rest.rest.now)
    c.does_fail-fails.ensures added.1 in
    stimuli_more c.args.sizes c.args.lines.now c.args.bytes.now i line c.loop-prop.stimuli c.loop-prop.rest.now added.0
    c.in_ok-rest.rest.now c.take_where.new.stimuli c.get.ensures
    c.loop-prop.invariant taken added.2

pub returns : goal.returns
returns c =
    stimuli_done c.args.sizes c.args.lines.now c.args.bytes.now c.loop-prop.prop c.loop-prop.stimuli c.loop-prop.rest.now
    (omega (arith, c.loop-prop-test.false, c.loop-prop.auto.prop-end, c.len-prop-end.ensures)) c.loop-prop.invariant
