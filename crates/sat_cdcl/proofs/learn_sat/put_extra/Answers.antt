use Rattle.std.proofs.Common.{refl}
use Rattle.sat_cdcl.proofs.FileLemmas.{kept_same}
use Rattle.sat_cdcl.proofs.learn_sat.put_extra.Goals as goal

pub returns-in_err-clause-in-Some-clause-kept : goal.returns-in_err-clause-in-Some-clause-kept
returns-in_err-clause-in-Some-clause-kept c = kept_same c.args.db.now c.args.db.now refl

pub returns-in_err-put-in-Some-clause-kept : goal.returns-in_err-put-in-Some-clause-kept
returns-in_err-put-in-Some-clause-kept c = kept_same c.args.db.now c.put.new.self c.in_err-put-in-Some.ensures.err

pub returns-in-None-clause-kept : goal.returns-in-None-clause-kept
returns-in-None-clause-kept c = kept_same c.args.db.now c.args.db.now refl
