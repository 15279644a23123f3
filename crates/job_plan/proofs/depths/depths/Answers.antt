use Rattle.std.proofs.Common.{arith, ap, ◌∙◌}
use Rattle.job_plan.specs.Depths.{above}
use Rattle.job_plan.proofs.DepthLemmas.{DepthsTo-more}
use Rattle.job_plan.proofs.CircuitLemmas.{own_gates, new_is_within, depths_of_all}
use Rattle.job_plan.proofs.depths.depths.Goals as goal

pub loop-at-preserved : goal.loop-at-preserved
loop-at-preserved c =
    let n = c.args.design.now in
    let sound = c.vars.ensures.sound in
    let gate = c.gate-gate.result in
    rw (c.number.ensures ∙ c.var.ensures)
    (DepthsTo-more n sound (own_gates n sound) c.loop-at.at gate c.gate-gate.ensures c.loop-at.depths.items
    c.depth_above.result (new_is_within n.vars gate.lhs (sound.gates c.loop-at.at gate c.gate-gate.ensures).lhs)
    (c.depth_above.ensures ∙ ap (λ ds. above ds gate) c.as_slice.ensures.value) c.loop-at.invariant)

pub returns : goal.returns
returns c = depths_of_all c.args.design.now c.loop-at.at c.loop-at.depths.items
    (omega (arith, c.loop-at-test.false, c.gates-at-end.ensures.value)) c.loop-at.invariant
