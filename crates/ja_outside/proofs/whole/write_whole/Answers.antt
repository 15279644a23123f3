use Rattle.std.proofs.Common.{length-drop, arith, ◌∙◌}
use Rattle.std.proofs.lemmas.List.{take_rest}
use Rattle.ja_outside.proofs.Pieces.{Appends-more}
use Rattle.ja_outside.proofs.whole.write_whole.Goals as goal

pub loop-done-preserved : goal.loop-done-preserved
loop-done-preserved g c =
    let bytes = c.args.bytes.now in
    let done = c.loop-done.done in
    let fits = rw (take_rest bytes done, length-drop done bytes) at c.in_ok-done.ensures.fits in
    let ok = rw (take_rest bytes done) at c.in_ok-done.ensures.ok in
    record {
      within = omega arith;
      written = Appends-more _ _ _ _ _ _ c.loop-done.invariant.written ok;
      quiet = c.in_ok-done.ensures.quiet ∙ c.loop-done.invariant.quiet;
    }
