use Rattle.std.proofs.Common.{sym, ◌∙◌}
use Rattle.sign_task.proofs.PlaceLemmas.{place_of, taken_next, taken_same}
use Rattle.sign_task.proofs.stimuli.stimuli_of.Goals as goal
use Rattle.sign_task.proofs.stimuli.stimuli_of.Goals.{then-has_failed+in_ok-stimulus_of+in_ok-push, else-has_failed}

pub loop-prop-preserved : goal.loop-prop-preserved
loop-prop-preserved c = elim c.if-has_failed.branch [
  | then-has_failed+in_ok-stimulus_of+in_ok-push w ↦
      let failed = sym c.has_failed.ensures ∙ w.if-has_failed.true in
      let at = place_of c.args.failures.now c.args.marks.now c.in_ok-places.places.items c.loop-prop.prop w.index.result.now
      c.loop-prop-test.true failed c.in_ok-places.ensures c.requires.each w.index.ensures in
      taken_next c.args.failures.now c.args.marks.now c.loop-prop.prop w.index.result.now w.index-failures-index.result
      w.in_ok-stimulus_of.field-0 c.loop-prop.stimuli c.if-has_failed.stimuli c.loop-prop-test.true failed at
      w.index-failures-index.is w.in_ok-stimulus_of.ensures (w.stimuli-is ∙ w.in_ok-push.ensures.ok) c.loop-prop.invariant
  | else-has_failed w ↦ let P = c.has_failed.ensures in let failed = sym P ∙ w.if-has_failed.false in
      let h = taken_same c.args.failures.now c.args.marks.now c.loop-prop.prop c.loop-prop.stimuli c.loop-prop-test.true failed
      c.loop-prop.invariant in rw w.stimuli-is h
]
