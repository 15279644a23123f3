use Rattle.job_plan.proofs.DepthLemmas.{DepthsTo}
use Rattle.job_plan.proofs.depths.depths.Given as goal

abbrev pub invariant-loop-at : goal.invariant-loop-at
invariant-loop-at l = DepthsTo l.design l.at l.depths.items
