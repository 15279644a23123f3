use Rattle.inv_cert.proofs.KnownLemmas.{IsRead-same, Knows-more}
use Rattle.inv_cert.proofs.join.known.Goals as goal

pub loop-clause-preserved : goal.loop-clause-preserved
loop-clause-preserved c =
    let read = IsRead-same c.as_slice-clause-items.result.now c.args.clauses.now c.loop-clause.clause-index c.lits.result
    c.clause-item.result
    c.as_slice-clause-items.ensures.value c.loop-clause-test.true c.clause-item.is c.lits.ensures.value in
    Knows-more c.args.clauses.now c.loop-clause.clause-index c.loop-clause.known c.insert.new.self c.lits.result
    c.clause-item.result
    read c.loop-clause.invariant c.in_ok-insert.ensures.updates
