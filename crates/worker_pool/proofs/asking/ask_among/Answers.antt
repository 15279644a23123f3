use Rattle.std.proofs.Common.{◌≡◌, ◌<◌, ◌⊎◌, Bool, List, Option, sym, subst}
use Rattle.std.specs.Prelude.{IfSome}
use Rattle.inv_cert.specs.Closed.{ClosedList}
use Rattle.local_stim.specs.Found.{FoundFailure}
use Rattle.store_core.specs.declared.answers.Judged.{Judged}
use Rattle.ic3_engine.specs.declared.found.Found.{Found}
use Rattle.ic3_engine.specs.Found.{IsFound, noted, noted_answer}
use Rattle.worker_pool.specs.Judgements.{Settles, judged_property, unset}
use Rattle.worker_pool.proofs.JudgementLemmas.{found_settles, found_falls}
use Rattle.worker_pool.proofs.asking.ask_among.Goals as goal

pub returns-in-Ok-Some-clause-judged : goal.returns-in-Ok-Some-clause-judged
returns-in-Ok-Some-clause-judged g c =
    let t = c.args.coded.now in
    let failed : List Bool = c.loop-found.engine.failed in
    let is : IsFound t c.args.prop failed c.in-Ok-Some.found =
    subst (λ (a : Option Found). IfSome a (IsFound t c.args.prop failed)) c.in-Ok-Some.field-0-is c.in-Ok-Some.ensures.found in
    subst (Settles t c.args.prop c.args.meter.now.limit) (sym c.judgement.ensures)
    (found_settles t c.args.prop c.args.meter.now.limit failed c.in-Ok-Some.found is c.task-task.ensures.expected c.requires.within)

pub returns-in-Ok-Some-clause-falls : goal.returns-in-Ok-Some-clause-falls
returns-in-Ok-Some-clause-falls g c =
    let t = c.args.coded.now in
    let failed : List Bool = c.loop-found.engine.failed in
    let now : List Bool = c.advance.new.engine.failed in
    let is : IsFound t c.args.prop failed c.in-Ok-Some.found =
    subst (λ (a : Option Found). IfSome a (IsFound t c.args.prop failed)) c.in-Ok-Some.field-0-is c.in-Ok-Some.ensures.found in
    let seen : now ≡ noted failed c.in-Ok-Some.found =
    subst (λ (a : Option Found). now ≡ noted_answer failed a) c.in-Ok-Some.field-0-is c.in-Ok-Some.ensures.failed in
    subst (λ (bs : List Bool). (judged_property c.judgement.result c.args.prop ≡ c.args.prop) ⊎ (unset now < unset bs))
    c.loop-found.invariant.failed
    (subst (λ (j : Judged ClosedList FoundFailure). (judged_property j c.args.prop ≡ c.args.prop) ⊎ (unset now < unset failed))
    (sym c.judgement.ensures)
    (found_falls t c.args.prop failed now c.in-Ok-Some.found is seen c.loop-found.invariant.engine.ready.wide
    c.task-task.ensures.expected))
