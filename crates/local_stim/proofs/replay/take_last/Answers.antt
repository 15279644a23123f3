use Rattle.std.proofs.Common.{◌≡◌, ◌-◌, length, ap, ◌∙◌, arith}
use Rattle.std.proofs.lemmas.Bool.{iff_false, false_from_ne_true}
use Rattle.std.proofs.lemmas.List.{length-map}
use Rattle.ja_base.specs.Literals.{value}
use Rattle.ja_base.specs.Circuit.{bad_literal}
use Rattle.aig_model.specs.Netlist.{latch_of}
use Rattle.aig_model.specs.Task.{problem}
use Rattle.local_stim.proofs.StepLemmas.{leaves_at, legal_to_last, broken_verdict, local_verdict}
use Rattle.local_stim.proofs.replay.take_last.Goals as goal

pub returns-then-not-take_step : goal.returns-then-not-take_step
returns-then-not-take_step c =
    let t = c.args.task.now in
    let m = c.args.stim.now in
    let r = c.requires.earlier in
    let after = c.take_step.new.runner in
    let len : c.len-last.result ≡ length m.inputs = c.len-last.ensures.len ∙ ap length c.inputs.ensures in
    let run = rw len at c.take_step.ensures.run in
    rw len (leaves_at t.design t.expected c.requires.sound m c.requires.initial c.requires.rows (length m.inputs - 1)
    c.args.runner.now.state after.state after.values c.args.broken r (omega arith) (run r.steps r.runs)
    (c.take_step.ensures.fits.state ∙ length-map t.design.latches latch_of)
    (iff_false c.take_step.ensures.meets c.if-not-take_step.true))

pub returns-then-not-breaks : goal.returns-then-not-breaks
returns-then-not-breaks c =
    let t = problem c.args.task.now in
    let after = c.take_step.new.runner in
    let len = c.len-last.ensures.len ∙ ap length c.inputs.ensures in
    let legal = legal_to_last t c.args.stim.now c.len-last.result c.args.runner.now after c.args.broken c.requires.initial len
    c.len-last.ensures.some
    c.requires.earlier c.take_step.ensures.run (c.take_step.ensures.meets.0 c.if-not-take_step.false) in
    let breaks = rw (c.design.ensures.value, c.vals.ensures) at c.breaks.ensures in
    let good = false_from_ne_true (value after.values (bad_literal t.circuit c.args.prop))
    (iff_false breaks c.if-not-breaks.true) in
    record { earlier = c.requires.earlier.steps; last = after.values; legal = legal; good = good }

pub returns-in-Some : goal.returns-in-Some
returns-in-Some c =
    let t = problem c.args.task.now in
    let m = c.args.stim.now in
    let old = c.args.runner.now in
    let after = c.take_step.new.runner in
    let r = c.requires.earlier in
    let len = c.len-last.ensures.len ∙ ap length c.inputs.ensures in
    let legal = legal_to_last t m c.len-last.result old after c.args.broken c.requires.initial len c.len-last.ensures.some r
    c.take_step.ensures.run (c.take_step.ensures.meets.0 c.if-not-take_step.false) in
    let breaks = rw (c.design.ensures.value, c.vals.ensures) at c.breaks.ensures in
    broken_verdict t c.args.prop m old.state after.values c.args.broken r legal
    (breaks.0 c.if-not-breaks.false) c.in-Some.found c.in-Some.is

pub returns-in-None : goal.returns-in-None
returns-in-None c =
    let t = problem c.args.task.now in
    let m = c.args.stim.now in
    let old = c.args.runner.now in
    let after = c.take_step.new.runner in
    let r = c.requires.earlier in
    let len = c.len-last.ensures.len ∙ ap length c.inputs.ensures in
    let legal = legal_to_last t m c.len-last.result old after c.args.broken c.requires.initial len c.len-last.ensures.some r
    c.take_step.ensures.run (c.take_step.ensures.meets.0 c.if-not-take_step.false) in
    let breaks = rw (c.design.ensures.value, c.vals.ensures) at c.breaks.ensures in
    local_verdict t c.args.prop m old.state after.values c.args.broken r legal (breaks.0 c.if-not-breaks.false) c.in-None.is
