use Rattle.report.specs.Reports.{clause_words}
use Rattle.report.specs.Sections.{IsHeldClause}
use Rattle.report.proofs.FormLemmas.{line_taken, no_line, other_line}
use Rattle.report.proofs.SectionLemmas.{some_clause}
use Rattle.report.proofs.NumbersLemmas.{clause_are_words}
use Rattle.report.proofs.read_clauses.take_clause.Goals as goal

pub returns-in_default : goal.returns-in_default
returns-in_default c =
    rw c.bad.ensures (no_line (IsHeldClause c.args.vars) clause_words (clause_are_words c.args.vars) (some_clause c.args.vars)
    c.args.bytes.now c.in_default.ensures.read)

pub returns-in_default-2 : goal.returns-in_default-2
returns-in_default-2 c =
    let none = rw c.in_default-2.is at c.in_ok-clause.ensures in
    rw c.bad-in_default-2.ensures
    (other_line (IsHeldClause c.args.vars) clause_words (clause_are_words c.args.vars) (some_clause c.args.vars) c.args.bytes.now
    c.in-Some.line.now c.in-Some.rest.now c.in-Some.ensures.read none)

pub returns : goal.returns
returns c =
    let found = rw c.in-Some-2.is at c.in_ok-clause.ensures in
    line_taken (IsHeldClause c.args.vars) clause_words c.args.bytes.now c.in-Some.line.now c.in-Some.rest.now c.in-Some-2.clause
    c.in-Some.ensures.read found.0 found.1
