use Rattle.aig_model.specs.Task.{problem}
use Rattle.aig_eval.proofs.OrderLemmas.{sound_is_acyclic}
use Rattle.local_stim.specs.declared.verdict.Confirm.TheVariants.{Local}
use Rattle.local_stim.proofs.VerdictLemmas.{verdicts_agree}
use Rattle.local_stim.proofs.replay.confirm.Goals as goal

pub returns-clause-only : goal.returns-clause-only
returns-clause-only c = λ fails.
    let t = c.args.task.now in
    verdicts_agree (problem t) c.args.stim.now
    (sound_is_acyclic t.design c.in_ok-verdict.ensures.sound) c.args.prop c.in_ok-verdict.verdict Local
    c.in_ok-verdict.ensures.verdict fails
