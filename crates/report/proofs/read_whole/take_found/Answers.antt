use Rattle.std.proofs.Common.{◌<◌, ◌^◌, length, arith}
use Rattle.std.proofs.lemmas.List.{length-map}
use Rattle.std.proofs.lemmas.Result.{err_from_is_err_and}
use Rattle.report.specs.declared.parts.PropLine.{PropLine}
use Rattle.report.specs.Findings.{marks_of}
use Rattle.report.specs.Sections.{clauses_form, stimuli_form}
use Rattle.report.specs.Whole.{found_form}
use Rattle.report.proofs.FormLemmas.{fails, stops_first, stops_behind}
use Rattle.report.proofs.StimulusLemmas.{stimuli_sound}
use Rattle.report.proofs.WholeLemmas.{clauses_form_sound}
use Rattle.report.proofs.read_whole.take_found.Goals as goal

pub returns-in_err-clauses : goal.returns-in_err-clauses
returns-in_err-clauses c =
    let p = err_from_is_err_and c.from_residual.result c.from_residual.ensures.1 in
    let s = c.args.sizes in
    let marks = marks_of c.args.lines.now in
    let small : length marks < 2 ^ 32 = omega (arith, c.requires, length-map c.args.lines.now (λ (l : PropLine). l.mark)) in
    rw (p.1, p.2)
    (fails (clauses_form s.vars) (found_form s marks) c.args.bytes.now c.args.bytes.now c.in_err-clauses.field-0.0
    c.in_err-clauses.ensures
    (λ left stop. stops_first (clauses_form s.vars) (λ _. stimuli_form s 0 marks) (λ _ _. (stimuli_sound s marks small).some)
    c.args.bytes.now left stop))

pub returns-in_err-stimuli : goal.returns-in_err-stimuli
returns-in_err-stimuli c =
    let p = err_from_is_err_and c.from_residual-in_err-stimuli.result c.from_residual-in_err-stimuli.ensures.1 in
    let s = c.args.sizes in
    let marks = marks_of c.args.lines.now in
    let clauses = c.in_ok-clauses.clauses in
    rw (p.1, p.2)
    (fails (stimuli_form s 0 marks) (found_form s marks) c.args.bytes.now c.in_ok-clauses.rest.now c.in_err-stimuli.field-0.0
    c.in_err-stimuli.ensures
    (λ left stop. stops_behind (clauses_form s.vars) (λ _. stimuli_form s 0 marks) (clauses_form_sound s.vars) c.args.bytes.now
    (length clauses, clauses) c.in_ok-clauses.rest.now left
    c.in_ok-clauses.ensures stop))
