use Rattle.std.specs.Prelude.{codes}
use Rattle.std.proofs.lemmas.Result.{err_from_is_err_and}
use Rattle.report.specs.Forms.{then}
use Rattle.report.specs.Sections.{words_form, named_form, names_form}
use Rattle.report.proofs.FormLemmas.{fails, stops_first, stops_behind}
use Rattle.report.proofs.StimulusLemmas.{head_sound, tail_sound, letter_sound, ones_sound}
use Rattle.report.proofs.read_stimuli.take_names.Goals as goal

pub returns-in_err-rest : goal.returns-in_err-rest
returns-in_err-rest c =
    let p = err_from_is_err_and c.from_residual.result c.from_residual.ensures.1 in
    let head = named_form (codes "stimulus b") c.args.prop in
    let tail = then (words_form (codes "1")) (λ _. named_form (codes "b") c.args.prop) in
    rw (p.1, p.2)
    (fails head (names_form c.args.prop) c.args.bytes.now c.args.bytes.now c.in_err-rest.field-0.0 c.in_err-rest.ensures
    (λ left stop. stops_first head (λ _. tail) (λ _ _. (tail_sound c.args.prop c.ranges.prop.fits).some) c.args.bytes.now left
    stop))

pub returns-in_err-rest-2 : goal.returns-in_err-rest-2
returns-in_err-rest-2 c =
    let p = err_from_is_err_and c.from_residual-in_err-rest-2.result c.from_residual-in_err-rest-2.ensures.1 in
    let head = named_form (codes "stimulus b") c.args.prop in
    let letter = named_form (codes "b") c.args.prop in
    let tail = then (words_form (codes "1")) (λ _. letter) in
    rw (p.1, p.2)
    (fails (words_form (codes "1")) (names_form c.args.prop) c.args.bytes.now c.in_ok-rest.rest.now c.in_err-rest-2.field-0.0
    c.in_err-rest-2.ensures
    (λ left stop. stops_behind head (λ _. tail) (head_sound c.args.prop c.ranges.prop.fits) c.args.bytes.now tt
    c.in_ok-rest.rest.now left c.in_ok-rest.ensures
    (stops_first (words_form (codes "1")) (λ _. letter) (λ _ _. (letter_sound c.args.prop c.ranges.prop.fits).some)
    c.in_ok-rest.rest.now left stop)))

pub returns-in_err-rest-3 : goal.returns-in_err-rest-3
returns-in_err-rest-3 c =
    let p = err_from_is_err_and c.from_residual-in_err-rest-3.result c.from_residual-in_err-rest-3.ensures.1 in
    let head = named_form (codes "stimulus b") c.args.prop in
    let letter = named_form (codes "b") c.args.prop in
    let tail = then (words_form (codes "1")) (λ _. letter) in
    rw (p.1, p.2)
    (fails letter (names_form c.args.prop) c.args.bytes.now c.in_ok-rest-2.rest.now c.in_err-rest-3.field-0.0
    c.in_err-rest-3.ensures
    (λ left stop. stops_behind head (λ _. tail) (head_sound c.args.prop c.ranges.prop.fits) c.args.bytes.now tt
    c.in_ok-rest.rest.now left c.in_ok-rest.ensures
    (stops_behind (words_form (codes "1")) (λ _. letter) ones_sound c.in_ok-rest.rest.now tt c.in_ok-rest-2.rest.now left
    c.in_ok-rest-2.ensures stop)))
