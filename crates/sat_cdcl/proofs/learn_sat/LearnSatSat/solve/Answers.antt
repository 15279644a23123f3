use Rattle.std.proofs.Common.{option_copied}
use Rattle.sat_plain.specs.Answer.{clauses_of}
use Rattle.sat_cdcl.proofs.QueryLemmas.{answer_of}
use Rattle.sat_cdcl.proofs.learn_sat.LearnSatSat.solve.Goals as goal

pub returns-in-Paid-clause-answer : goal.returns-in-Paid-clause-answer
returns-in-Paid-clause-answer g c =
    answer_of c.args.self.now.vars (clauses_of c.args.self.now.added (option_copied c.args.extra)) c.args.under.now
    c.query.result c.query.ensures.answer
