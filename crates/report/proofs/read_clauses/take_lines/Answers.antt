use Rattle.std.proofs.Common.{◌+◌, List, ℕ, sym, subst}
use Rattle.std.proofs.lemmas.Result.{err_from_is_err_and}
use Rattle.report.specs.Forms.{Takes}
use Rattle.report.specs.Sections.{clause_form, clause_lines_form}
use Rattle.report.proofs.FormLemmas.{fails}
use Rattle.report.proofs.SectionLemmas.{clauses_more, clauses_end}
use Rattle.report.proofs.read_clauses.take_lines.Goals as goal

pub returns-in_err-clause : goal.returns-in_err-clause
returns-in_err-clause c =
    let p = err_from_is_err_and c.from_residual.result c.from_residual.ensures.1 in
    rw (p.1, p.2)
    (fails (clause_form c.args.vars) (clause_lines_form c.args.vars c.args.count) c.args.bytes.now c.loop.rest.now
    c.in_err-clause.field-0.0 c.in_err-clause.ensures
    (λ left stop. clauses_end c.args.vars c.args.count c.args.bytes.now c.loop.counter c.loop.clauses c.loop.rest.now left
    c.loop-test.true c.loop.invariant stop))

pub loop-preserved : goal.loop-preserved
loop-preserved c =
    let P : List (List ℕ) → Type 0 = λ cs. Takes (clause_lines_form c.args.vars (c.loop.counter + 1)) c.args.bytes.now cs
    c.in_ok-clause.after.now in
    subst P (sym c.in_ok-push.ensures.ok)
    (clauses_more c.args.vars c.args.bytes.now c.loop.counter c.loop.clauses c.loop.rest.now c.in_ok-clause.clause
    c.in_ok-clause.after.now c.loop.invariant c.in_ok-clause.ensures)
