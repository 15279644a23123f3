use Rattle.std.proofs.Common.{◌≡◌, drop}
use Rattle.ic3_engine.specs.Putting.{put_all}
use Rattle.ic3_engine.proofs.putting.put_closed.Given as goal

abbrev pub invariant-loop-at : goal.invariant-loop-at
invariant-loop-at l = record {
  top : l.frames.top ≡ l.fn.frames.top;
  kept : put_all l.fn.frames.top (drop l.at l.list.clauses) l.frames.kept ≡ put_all l.fn.frames.top l.list.clauses l.fn.frames.kept;
}
