use Rattle.std.proofs.Common.{arith}
use Rattle.ic3_query.proofs.OpenLemmas.{initial_from_resets}
use Rattle.ic3_query.proofs.seen.is_initial.Goals as goal

pub returns : goal.returns
returns c =
    initial_from_resets c.args.design.now c.args.vals.now (λ k latch within at. c.loop-at.invariant k latch
    (omega (arith, within, c.loop-at-test.false, c.latches-at-end.ensures.value)) at)
