use Rattle.report.proofs.DecodeLemmas.{told}
use Rattle.report.proofs.NumbersLemmas.{clause_tested}
use Rattle.report.proofs.read_clauses.is_clause.Goals as goal

pub returns-then-ascend : goal.returns-then-ascend
returns-then-ascend c =
    clause_tested c.are_of_variables.result c.args.vars c.args.lits.now (told c.ascend.result c.if-ascend.true c.ascend.ensures)
    c.are_of_variables.ensures
