use Rattle.std.proofs.Common.{map}
use Rattle.store_core.specs.MarkKinds.{fails}
use Rattle.debug_set.proofs.SetLemmas.{next_of_set}
use Rattle.debug_set.proofs.set.debugging_set.Goals as goal

pub loop-prop-preserved : goal.loop-prop-preserved
loop-prop-preserved c =
    next_of_set c.args.expect.now (map fails c.args.marks.now) c.loop-prop.prop c.loop-prop.set c.add_where.new.set
    c.breaks_expectation.result c.breaks_expectation.ensures c.in_ok-add_where.ensures c.loop-prop.invariant
