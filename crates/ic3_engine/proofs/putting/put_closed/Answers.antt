use Rattle.std.proofs.Common.{ap, ◌∙◌}
use Rattle.ic3_engine.specs.Putting.{put_at}
use Rattle.ic3_engine.proofs.PutLemmas.{put_step}
use Rattle.ic3_engine.proofs.putting.put_closed.Goals as goal

pub loop-at-preserved : goal.loop-at-preserved
loop-at-preserved c = record {
  top = c.put.ensures.top ∙ c.loop-at.invariant.top;
  kept = put_step c.args.frames.now.top c.args.list.now.clauses c.loop-at.at c.clause.result.now c.loop-at.frames.kept c.put.new.frames.kept
      c.args.frames.now.kept c.clause.ensures
      (c.in_ok-put.ensures.kept ∙ ap (λ top. put_at top c.clause.result.now c.loop-at.frames.kept) c.loop-at.invariant.top)
      c.loop-at.invariant.kept;
}
