use Rattle.std.proofs.Common.{true, None, ◌∙◌}
use Rattle.store_core.proofs.ExampleLemmas.{zero_one, opens}
use Rattle.desk.proofs.fakes.opening_of.Goals as goal

pub returns-clause-opens : goal.returns-clause-opens
returns-clause-opens c =
    opens (record { plan = c.plan-2.inside.items.items; assumed = c.in_ok-ones.field-0; fail_fast = true; limit = None })
    (c.plan-2.view_is ∙ zero_one c.new-plan.ensures c.in_ok-push.ensures.ok c.in_ok-push-2.ensures.ok) c.in_ok-ones.ensures
