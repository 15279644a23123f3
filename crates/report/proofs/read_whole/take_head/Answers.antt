use Rattle.std.specs.Prelude.{codes}
use Rattle.std.proofs.lemmas.Result.{err_from_is_err_and}
use Rattle.report.specs.Forms.{then}
use Rattle.report.specs.Sections.{words_form, sizes_form}
use Rattle.report.specs.Whole.{head_form}
use Rattle.report.proofs.FormLemmas.{fails, stops_first, stops_behind}
use Rattle.report.proofs.SectionLemmas.{props_sound}
use Rattle.report.proofs.WholeLemmas.{first_sound, sizes_sound, props_of, sizes_props_sound}
use Rattle.report.proofs.read_whole.take_head.Goals as goal

pub returns-in_err-rest : goal.returns-in_err-rest
returns-in_err-rest c =
    let p = err_from_is_err_and c.from_residual.result c.from_residual.ensures.1 in
    let first = words_form (codes "jasign 1") in
    rw (p.1, p.2)
    (fails first head_form c.args.bytes.now c.args.bytes.now c.in_err-rest.field-0.0 c.in_err-rest.ensures
    (λ left stop. stops_first first (λ _. then sizes_form props_of) (λ _ _. sizes_props_sound.some) c.args.bytes.now left stop))

pub returns-in_err-sizes : goal.returns-in_err-sizes
returns-in_err-sizes c =
    let p = err_from_is_err_and c.from_residual-in_err-sizes.result c.from_residual-in_err-sizes.ensures.1 in
    let first = words_form (codes "jasign 1") in
    rw (p.1, p.2)
    (fails sizes_form head_form c.args.bytes.now c.in_ok-rest.rest.now c.in_err-sizes.field-0.0 c.in_err-sizes.ensures
    (λ left stop. stops_behind first (λ _. then sizes_form props_of) first_sound c.args.bytes.now tt c.in_ok-rest.rest.now left
    c.in_ok-rest.ensures
    (stops_first sizes_form props_of (λ s fits. (props_sound s.props fits.props).some) c.in_ok-rest.rest.now left stop)))

pub returns-in_err-lines : goal.returns-in_err-lines
returns-in_err-lines c =
    let p = err_from_is_err_and c.from_residual-in_err-lines.result c.from_residual-in_err-lines.ensures.1 in
    let first = words_form (codes "jasign 1") in
    rw (p.1, p.2)
    (fails (props_of c.in_ok-sizes.sizes) head_form c.args.bytes.now c.in_ok-sizes.rest.now c.in_err-lines.field-0.0
    c.in_err-lines.ensures
    (λ left stop. stops_behind first (λ _. then sizes_form props_of) first_sound c.args.bytes.now tt c.in_ok-rest.rest.now left
    c.in_ok-rest.ensures
    (stops_behind sizes_form props_of sizes_sound c.in_ok-rest.rest.now c.in_ok-sizes.sizes c.in_ok-sizes.rest.now left
    c.in_ok-sizes.ensures stop)))
