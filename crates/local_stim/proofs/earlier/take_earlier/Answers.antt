use Rattle.std.proofs.Common.{◌<◌, length, ap, ◌∙◌, arith}
use Rattle.std.proofs.lemmas.Bool.{iff_false}
use Rattle.std.proofs.lemmas.List.{length-map}
use Rattle.aig_model.specs.Netlist.{latch_of}
use Rattle.aig_model.specs.Task.{problem}
use Rattle.local_stim.proofs.StepLemmas.{leaves_at, next_replays}
use Rattle.local_stim.proofs.earlier.take_earlier.Goals as goal

pub returns-then-not-take_step-clause-earlier : goal.returns-then-not-take_step-clause-earlier
returns-then-not-take_step-clause-earlier c =
    let t = c.args.task.now in
    let m = c.args.stim.now in
    let r = c.loop-step.invariant.replays in
    let after = c.take_step.new.runner in
    let within : c.loop-step.step < length m.inputs = omega (arith, c.len-step-end.ensures.len ∙ ap length c.inputs.ensures) in
    leaves_at t.design t.expected c.requires.sound m c.requires.initial c.requires.rows c.loop-step.step c.loop-step.runner.state
    after.state after.values
    c.loop-step.broken r within (c.take_step.ensures.run r.steps r.runs)
    (c.take_step.ensures.fits.state ∙ length-map t.design.latches latch_of)
    (iff_false c.take_step.ensures.meets c.if-not-take_step.true)

pub loop-step-preserved : goal.loop-step-preserved
loop-step-preserved c =
    let t = problem c.args.task.now in
    let m = c.args.stim.now in
    let r = c.loop-step.invariant.replays in
    let after = c.take_step.new.runner in
    let within : c.loop-step.step < length m.inputs = omega (arith, c.len-step-end.ensures.len ∙ ap length c.inputs.ensures) in
    record {
      fits = c.take_step.ensures.fits;
      replays = next_replays t m c.loop-step.step c.loop-step.runner.state after.state after.values c.loop-step.broken
          c.first_break-broken.result
          r within (c.take_step.ensures.run r.steps r.runs) (c.take_step.ensures.meets.0 c.if-not-take_step.false)
          c.first_break-broken.ensures.found (rw c.vals.ensures at c.first_break-broken.ensures.here);
    }
