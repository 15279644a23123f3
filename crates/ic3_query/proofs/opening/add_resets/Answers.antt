use Rattle.std.proofs.Common.{◌≡◌, Some, slice_get, ap, subst, ◌∙◌}
use Rattle.aig_model.specs.Netlist.{Netlist}
use Rattle.aig_model.specs.Task.{VerificationTask}
use Rattle.ic3_query.proofs.opening.add_resets.Goals as goal

pub add_reset-requires-clause-latch : goal.add_reset-requires-clause-latch
add_reset-requires-clause-latch g c =
    let same = c.design-design.ensures.value ∙ ap (λ (t : VerificationTask). t.design) c.task.ensures.value in
    let P : Netlist → Type 0 = λ n. slice_get n.latches c.loop-at.at ≡ Some c.latch.result in
    (c.task.ensures.sound.latches c.loop-at.at c.latch.result (subst P same c.latch.ensures)).lit
