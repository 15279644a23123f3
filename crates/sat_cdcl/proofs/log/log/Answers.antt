use Rattle.sat_cdcl.proofs.FileLemmas.{kept_same}
use Rattle.sat_cdcl.proofs.log.log.Goals as goal

pub returns-in_err-slot-clause-kept : goal.returns-in_err-slot-clause-kept
returns-in_err-slot-clause-kept c = kept_same c.args.db.now c.put.new.self c.in_err-slot.ensures.err
