use Rattle.std.proofs.Common.{[], ◌+◌, arith}
use Rattle.ja_project.specs.CodedClauses.{held_literals_of}
use Rattle.ja_project.proofs.RangeLemmas.{flat_range_more}
use Rattle.ja_project.proofs.held.held_literals.Goals as goal

pub loop-prop-preserved : goal.loop-prop-preserved
loop-prop-preserved c =
    flat_range_more (held_literals_of c.args.task.now) [] c.loop-prop.held c.add_held.new.held 0 c.loop-prop.prop
    (c.loop-prop.prop + 1) c.loop-prop.prop (omega arith) (omega arith) c.loop-prop.invariant c.in_ok-add_held.ensures
