use Rattle.std.proofs.Common.{subst, get_or}
use Rattle.aig_model.specs.Netlist.{Netlist, circuit}
use Rattle.aig_model.specs.Task.{problem}
use Rattle.job_plan.specs.Plans.{IsDepth}
use Rattle.job_plan.proofs.PlanLemmas.{plan_is}
use Rattle.job_plan.proofs.order.plan.Goals as goal

pub returns : goal.returns
returns c =
    let depths = c.in_ok-depths.depths.items in
    let deep = subst (λ (n : Netlist). IsDepth (circuit n) (λ u. get_or depths u 0)) c.design.ensures.value
    c.in_ok-depths.ensures.are in
    plan_is (problem c.args.task.now) depths c.as_slice.result.now c.in_ok-ranks.ranks.items c.sort_unstable.new.self.items
    c.as_slice-2.result.now c.in_ok-plan.plan c.as_slice.ensures.value deep c.in_ok-ranks.ensures
    c.sort_unstable.ensures.permutation c.sort_unstable.ensures.sorted c.as_slice-2.ensures.value c.in_ok-plan.ensures
