use Rattle.std.proofs.Common.{sym, subst, ◌∙◌}
use Rattle.std.specs.List.Sorted.{IsStrictlyIncreasing}
use Rattle.report.specs.Reports.{IsReportClause}
use Rattle.report.proofs.NumbersLemmas.{no_clause, clause_found}
use Rattle.report.proofs.DecodeLemmas.{told, untold}
use Rattle.report.proofs.read_clauses.clause_of.Goals as goal

pub returns-then-not-is_clause : goal.returns-then-not-is_clause
returns-then-not-is_clause c =
    let numbers = c.numbers_of.new.lits.items in
    let are = rw c.if-not-branch.false at c.in_ok-numbers_of.ensures in
    let wrong = untold c.is_clause.result c.if-not-is_clause.true c.is_clause.ensures in
    no_clause c.args.vars c.args.line.now numbers are
    (λ h. wrong (subst (IsReportClause c.args.vars) (sym c.as_slice.ensures.value) h))

pub returns : goal.returns
returns c =
    let numbers = c.numbers_of.new.lits.items in
    let are = rw c.if-not-branch.false at c.in_ok-numbers_of.ensures in
    let form = subst (IsReportClause c.args.vars) c.as_slice.ensures.value
    (told c.is_clause.result c.if-not-is_clause.false c.is_clause.ensures) in
    let same = c.in_ok-clause.ensures.ascending (subst IsStrictlyIncreasing (sym c.as_slice-2.ensures.value) form.ascends)
    ∙ c.as_slice-2.ensures.value in
    clause_found c.args.vars c.args.line.now numbers c.in_ok-clause.clause are form same
