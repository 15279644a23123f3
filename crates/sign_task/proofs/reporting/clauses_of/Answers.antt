use Rattle.sign_task.proofs.ClauseLemmas.{copied_next}
use Rattle.sign_task.proofs.reporting.clauses_of.Goals as goal

pub loop-at-preserved : goal.loop-at-preserved
loop-at-preserved c = copied_next _ _ _ _ _ _ c.clause.ensures c.in_ok-copied.ensures.value c.in_ok-copied.ensures.ascends
    c.in_ok-push.ensures.ok c.loop-at.invariant
