use Rattle.ic3_engine.proofs.OwnLemmas.{not_own_falls}
use Rattle.ic3_engine.proofs.own.prove_own.Goals as goal

pub loop-found-smaller : goal.loop-found-smaller
loop-found-smaller g c =
    not_own_falls c.args.coded.now c.args.prop c.loop-found.engine.failed c.prove.new.engine.failed c.in_ok-found.found c.is_of.result
    c.in_ok-found.ensures.found c.in_ok-found.ensures.failed c.if-is_of.false c.is_of.ensures c.loop-found.invariant.ready.ready.wide
    c.task-task.ensures.expected
