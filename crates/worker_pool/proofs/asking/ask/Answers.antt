use Rattle.std.proofs.Common.{◌≡◌, ◌<◌, ◌⊎◌, sym, subst}
use Rattle.store_core.specs.declared.answers.Judged.{Judged}
use Rattle.inv_cert.specs.Closed.{ClosedList}
use Rattle.local_stim.specs.Found.{FoundFailure}
use Rattle.worker_pool.specs.Judgements.{Settles, judged_property, unset}
use Rattle.worker_pool.proofs.JudgementLemmas.{found_settles, found_falls}
use Rattle.worker_pool.proofs.asking.ask.Goals as goal

pub returns-in-Ok-clause-judged : goal.returns-in-Ok-clause-judged
returns-in-Ok-clause-judged g c =
    subst (Settles c.args.coded.now c.args.prop c.args.meter.now.limit) (sym c.judgement.ensures)
    (found_settles c.args.coded.now c.args.prop c.args.meter.now.limit c.args.engine.now.failed c.in-Ok.found c.in-Ok.ensures.found
    c.task-task.ensures.expected c.requires.within)

pub returns-in-Ok-clause-falls : goal.returns-in-Ok-clause-falls
returns-in-Ok-clause-falls g c =
    subst (λ (j : Judged ClosedList FoundFailure). (judged_property j c.args.prop ≡ c.args.prop)
    ⊎ (unset c.prove.new.engine.failed < unset c.args.engine.now.failed)) (sym c.judgement.ensures)
    (found_falls c.args.coded.now c.args.prop c.args.engine.now.failed c.prove.new.engine.failed c.in-Ok.found c.in-Ok.ensures.found
    c.in-Ok.ensures.failed c.requires.engine.ready.wide c.task-task.ensures.expected)
