use Rattle.std.proofs.lemmas.Result.{err_from_is_err_and}
use Rattle.report.specs.Forms.{then}
use Rattle.report.specs.Sections.{names_form, row_form, inputs_form, stimulus_form}
use Rattle.report.proofs.FormLemmas.{fails, stops_first, stops_behind, then_takes}
use Rattle.report.proofs.StimulusLemmas.{names_sound, row_sound, inputs_sound, trace_sound, stimulus_stops, stimulus_taken}
use Rattle.report.proofs.read_stimuli.take_stimulus.Goals as goal

pub returns-in_err-rest : goal.returns-in_err-rest
returns-in_err-rest c =
    let s = c.args.sizes in
    let p = err_from_is_err_and c.from_residual.result c.from_residual.ensures.1 in
    let names = names_form c.args.prop in
    let trace = then (row_form s.latches) (λ _. inputs_form s.inputs) in
    rw (p.1, p.2)
    (fails names (stimulus_form s c.args.prop) c.args.bytes.now c.args.bytes.now c.in_err-rest.field-0.0 c.in_err-rest.ensures
    (λ left stop. stimulus_stops s c.args.prop c.args.bytes.now left
    (stops_first names (λ _. trace) (λ _ _. (trace_sound s).some) c.args.bytes.now left stop)))

pub returns-in_err-first : goal.returns-in_err-first
returns-in_err-first c =
    let s = c.args.sizes in
    let p = err_from_is_err_and c.from_residual-in_err-first.result c.from_residual-in_err-first.ensures.1 in
    let names = names_form c.args.prop in
    let inputs = inputs_form s.inputs in
    let trace = then (row_form s.latches) (λ _. inputs) in
    rw (p.1, p.2)
    (fails (row_form s.latches) (stimulus_form s c.args.prop) c.args.bytes.now c.in_ok-rest.rest.now c.in_err-first.field-0.0
    c.in_err-first.ensures
    (λ left stop. stimulus_stops s c.args.prop c.args.bytes.now left
    (stops_behind names (λ _. trace) (names_sound c.args.prop c.ranges.prop.fits) c.args.bytes.now (tt, (tt, tt))
    c.in_ok-rest.rest.now left c.in_ok-rest.ensures
    (stops_first (row_form s.latches) (λ _. inputs) (λ _ _. (inputs_sound s.inputs).some) c.in_ok-rest.rest.now left stop))))

pub returns-in_err-inputs : goal.returns-in_err-inputs
returns-in_err-inputs c =
    let s = c.args.sizes in
    let p = err_from_is_err_and c.from_residual-in_err-inputs.result c.from_residual-in_err-inputs.ensures.1 in
    let names = names_form c.args.prop in
    let inputs = inputs_form s.inputs in
    let trace = then (row_form s.latches) (λ _. inputs) in
    rw (p.1, p.2)
    (fails inputs (stimulus_form s c.args.prop) c.args.bytes.now c.in_ok-first.rest.now c.in_err-inputs.field-0.0
    c.in_err-inputs.ensures
    (λ left stop. stimulus_stops s c.args.prop c.args.bytes.now left
    (stops_behind names (λ _. trace) (names_sound c.args.prop c.ranges.prop.fits) c.args.bytes.now (tt, (tt, tt))
    c.in_ok-rest.rest.now left c.in_ok-rest.ensures
    (stops_behind (row_form s.latches) (λ _. inputs) (row_sound s.latches) c.in_ok-rest.rest.now c.in_ok-first.first
    c.in_ok-first.rest.now left c.in_ok-first.ensures stop))))

pub returns : goal.returns
returns c =
    let s = c.args.sizes in
    let names = names_form c.args.prop in
    let inputs = inputs_form s.inputs in
    let trace = then (row_form s.latches) (λ _. inputs) in
    let rows = then_takes (row_form s.latches) (λ _. inputs) c.in_ok-rest.rest.now c.in_ok-first.first c.in_ok-first.rest.now
    c.in_ok-inputs.inputs c.in_ok-inputs.rest.now
    c.in_ok-first.ensures c.in_ok-inputs.ensures in
    let whole = then_takes names (λ _. trace) c.args.bytes.now (tt, (tt, tt)) c.in_ok-rest.rest.now
    (c.in_ok-first.first, c.in_ok-inputs.inputs) c.in_ok-inputs.rest.now c.in_ok-rest.ensures rows in
    rw c.new-stim.ensures (stimulus_taken s c.args.prop c.args.bytes.now c.in_ok-first.first c.in_ok-inputs.inputs
    c.in_ok-inputs.rest.now whole)
