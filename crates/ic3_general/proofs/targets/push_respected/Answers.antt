use Rattle.std.proofs.Common.{◌+◌, arith}
use Rattle.ja_project.specs.CodedClauses.{held_literals_of}
use Rattle.ja_project.proofs.RangeLemmas.{flat_range_more}
use Rattle.ic3_general.specs.Aims.{respecting}
use Rattle.ic3_general.proofs.targets.push_respected.Goals as goal

pub loop-prop-preserved : goal.loop-prop-preserved
loop-prop-preserved c =
    flat_range_more (held_literals_of (respecting c.args.coded.now c.args.respect.now)) c.args.lits.now c.loop-prop.lits
    c.push_good.new.lits 0 c.loop-prop.prop (c.loop-prop.prop + 1) c.loop-prop.prop (omega arith) (omega arith)
    c.loop-prop.invariant c.in_ok-push_good.ensures
