use Rattle.std.proofs.Common.{sym, ap, ◌∙◌}
use Rattle.std.proofs.lemmas.Bool.{false≢true}
use Rattle.aig_model.specs.Order.{is_reached}
use Rattle.aig_model.proofs.order.Walk.first_reached.Goals as goal

pub returns-in-Reached : goal.returns-in-Reached
returns-in-Reached c = (
  rw (← c.deref-standing-items.ensures.value) (ap is_reached c.in-Reached.is),
  λ j lt gone. false≢true (sym (c.loop-var.invariant j lt) ∙ gone),
)
