use Rattle.inv_cert.proofs.InductionLemmas.{covered_never_breaks}
use Rattle.inv_cert.proofs.laws.covered_never_breaks.Goals as goal

pub returns : goal.returns
returns c = λ circuit set clauses m inductive covers. covered_never_breaks circuit set clauses inductive covers m
