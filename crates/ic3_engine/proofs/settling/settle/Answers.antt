use Rattle.ic3_query.specs.Known.{all_of}
use Rattle.ic3_engine.proofs.SettleLemmas.{settled_is_step}
use Rattle.ic3_engine.proofs.StartLemmas.{begins_holds}
use Rattle.ic3_engine.proofs.settling.settle.Goals as goal

pub keep-requires-clause-begins : goal.keep-requires-clause-begins
keep-requires-clause-begins g c =
    begins_holds c.args.coded.now.design c.args.clause c.task-task.ensures.sound c.requires.begins

pub returns-clause-step : goal.returns-clause-step
returns-clause-step g c =
    settled_is_step c.args.coded.now (all_of c.args.known.now) c.args.frames.now c.keep.new.frames c.args.level c.args.clause _ _ _ _
    c.task-task.ensures.sound c.requires.search c.requires.low c.requires.high c.requires.own c.requires.begins c.requires.kept c.requires.free
    c.in_ok-keep.ensures.kept c.keep.ensures.top c.in_ok-keep.ensures.serves
