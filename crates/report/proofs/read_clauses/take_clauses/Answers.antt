use Rattle.std.proofs.lemmas.Result.{err_from_is_err_and}
use Rattle.std.specs.Prelude.{codes}
use Rattle.report.specs.Sections.{count_form, clause_lines_form, clauses_form}
use Rattle.report.proofs.FormLemmas.{fails, stops_first, stops_behind}
use Rattle.report.proofs.SectionLemmas.{clauses_sound, clause_count_sound}
use Rattle.report.proofs.read_clauses.take_clauses.Goals as goal

pub returns-in_err-count : goal.returns-in_err-count
returns-in_err-count c =
    let p = err_from_is_err_and c.from_residual.result c.from_residual.ensures.1 in
    rw (p.1, p.2)
    (fails (count_form (codes "clauses ")) (clauses_form c.args.vars) c.args.bytes.now c.args.bytes.now c.in_err-count.field-0.0
    c.in_err-count.ensures
    (λ left stop. stops_first (count_form (codes "clauses ")) (clause_lines_form c.args.vars)
    (λ n fits. (clauses_sound c.args.vars n).some) c.args.bytes.now left stop))

pub returns-in_err-clauses : goal.returns-in_err-clauses
returns-in_err-clauses c =
    let p = err_from_is_err_and c.from_residual-in_err-clauses.result c.from_residual-in_err-clauses.ensures.1 in
    rw (p.1, p.2)
    (fails (clause_lines_form c.args.vars c.in_ok-count.count) (clauses_form c.args.vars) c.args.bytes.now c.in_ok-count.rest.now
    c.in_err-clauses.field-0.0 c.in_err-clauses.ensures
    (λ left stop. stops_behind (count_form (codes "clauses ")) (clause_lines_form c.args.vars) clause_count_sound c.args.bytes.now
    c.in_ok-count.count c.in_ok-count.rest.now left c.in_ok-count.ensures stop))
