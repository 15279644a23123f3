use Rattle.aig_model.specs.Task.{problem}
use Rattle.job_plan.specs.Depths.{AreRanks}
use Rattle.job_plan.proofs.order.ranks.Given as goal

abbrev pub invariant-loop-prop : goal.invariant-loop-prop
invariant-loop-prop l = AreRanks (problem l.task) l.depths l.prop l.ranks.items
