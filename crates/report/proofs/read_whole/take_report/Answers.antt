use Rattle.std.proofs.Common.{List, ℕ, length}
use Rattle.std.proofs.lemmas.Result.{err_from_is_err_and}
use Rattle.report.specs.declared.parts.PropStim.{PropStim}
use Rattle.report.specs.Findings.{marks_of}
use Rattle.report.specs.Whole.{head_form, found_form, report_form}
use Rattle.report.proofs.FormLemmas.{fails}
use Rattle.report.proofs.WholeLemmas.{behind_found, report_stops_head, report_stops_found, report_stops_end, report_taken}
use Rattle.report.proofs.read_whole.take_report.Goals as goal

pub returns-in_err-sizes : goal.returns-in_err-sizes
returns-in_err-sizes c =
    let p = err_from_is_err_and c.from_residual.result c.from_residual.ensures.1 in
    rw (p.1, p.2)
    (fails head_form report_form c.args.bytes.now c.args.bytes.now c.in_err-sizes.field-0.0 c.in_err-sizes.ensures
    (λ left stop. report_stops_head c.args.bytes.now left stop))

pub returns-in_err-clauses : goal.returns-in_err-clauses
returns-in_err-clauses c =
    let p = err_from_is_err_and c.from_residual-in_err-clauses.result c.from_residual-in_err-clauses.ensures.1 in
    let s = c.in_ok-sizes.sizes in
    let lines = c.in_ok-sizes.lines in
    rw (p.1, p.2)
    (fails (found_form s (marks_of lines)) report_form c.args.bytes.now c.in_ok-sizes.rest.now c.in_err-clauses.field-0.0
    c.in_err-clauses.ensures
    (λ left stop. report_stops_found c.args.bytes.now (tt, (s, lines)) c.in_ok-sizes.rest.now left c.in_ok-sizes.ensures stop))

pub returns-in_err-end : goal.returns-in_err-end
returns-in_err-end c =
    let p = err_from_is_err_and c.from_residual-in_err-end.result c.from_residual-in_err-end.ensures.1 in
    let s = c.in_ok-sizes.sizes in
    let lines = c.in_ok-sizes.lines in
    let clauses = c.in_ok-clauses.clauses in
    let found : (ℕ × List (List ℕ)) × List PropStim = ((length clauses, clauses), c.in_ok-clauses.stimuli) in
    rw (p.1, p.2)
    (fails (behind_found (tt, (s, lines)) found) report_form c.args.bytes.now c.in_ok-clauses.rest.now c.in_err-end.field-0.0
    c.in_err-end.ensures
    (λ left stop. report_stops_end c.args.bytes.now (tt, (s, lines)) c.in_ok-sizes.rest.now found c.in_ok-clauses.rest.now left
    c.in_ok-sizes.ensures c.in_ok-clauses.ensures stop))

pub returns : goal.returns
returns c =
    let clauses = c.in_ok-clauses.clauses in
    let end = c.in_ok-end.end in
    report_taken c.args.bytes.now (tt, (c.in_ok-sizes.sizes, c.in_ok-sizes.lines)) c.in_ok-sizes.rest.now
    ((length clauses, clauses), c.in_ok-clauses.stimuli) c.in_ok-clauses.rest.now
    (end.joined, (end.set, (end.shown, end.journal))) c.in_ok-end.rest.now c.in_ok-sizes.ensures c.in_ok-clauses.ensures
    c.in_ok-end.ensures

pub invariant_of-report : goal.invariant_of-report
invariant_of-report c =
    let clauses = c.in_ok-clauses.clauses in
    let end = c.in_ok-end.end in
    (report_taken c.args.bytes.now (tt, (c.in_ok-sizes.sizes, c.in_ok-sizes.lines)) c.in_ok-sizes.rest.now
    ((length clauses, clauses), c.in_ok-clauses.stimuli) c.in_ok-clauses.rest.now
    (end.joined, (end.set, (end.shown, end.journal))) c.in_ok-end.rest.now c.in_ok-sizes.ensures c.in_ok-clauses.ensures
    c.in_ok-end.ensures).fits.form
