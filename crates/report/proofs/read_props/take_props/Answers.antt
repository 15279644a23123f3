use Rattle.std.proofs.Common.{◌+◌, List, sym, subst}
use Rattle.std.proofs.lemmas.Result.{err_from_is_err_and}
use Rattle.report.specs.declared.parts.PropLine.{PropLine}
use Rattle.report.specs.Forms.{Takes}
use Rattle.report.specs.Sections.{prop_form, props_form}
use Rattle.report.proofs.FormLemmas.{fails}
use Rattle.report.proofs.SectionLemmas.{props_more, props_ends}
use Rattle.report.proofs.read_props.take_props.Goals as goal

pub returns-in_err-line : goal.returns-in_err-line
returns-in_err-line c =
    let p = err_from_is_err_and c.from_residual.result c.from_residual.ensures.1 in
    rw (p.1, p.2)
    (fails (prop_form c.loop-prop.prop) (props_form c.args.count 0) c.args.bytes.now c.loop-prop.rest.now c.in_err-line.field-0.0
    c.in_err-line.ensures
    (λ left stop. props_ends c.args.count c.args.bytes.now c.loop-prop.prop c.loop-prop.lines c.loop-prop.rest.now left
    c.ranges.count.fits c.loop-prop-test.true c.loop-prop.invariant stop))

pub loop-prop-preserved : goal.loop-prop-preserved
loop-prop-preserved c =
    let P : List PropLine → Type 0 = λ ls. Takes (props_form (c.loop-prop.prop + 1) 0) c.args.bytes.now ls c.in_ok-line.after.now
    in
    subst P (sym c.in_ok-push.ensures.ok)
    (props_more c.args.bytes.now c.loop-prop.prop c.loop-prop.lines c.loop-prop.rest.now c.in_ok-line.line c.in_ok-line.after.now
    c.loop-prop.invariant c.in_ok-line.ensures)
