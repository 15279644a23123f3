use Rattle.std.proofs.Common.{[]}
use Rattle.std.specs.Prelude.{codes}
use Rattle.report.proofs.NumbersLemmas.{grows_more}
use Rattle.report.proofs.read_set.props_of.Goals as goal

pub loop-prop-preserved : goal.loop-prop-preserved
loop-prop-preserved c =
    grows_more (codes " b") c.args.bytes.now [] c.loop-prop.props c.loop-prop.rest.now _ c.in-Some.prop c.in-Some.after.now
    c.loop-prop.invariant c.in-Some.ensures.read c.in_ok-push.ensures.ok
