use Rattle.std.proofs.Common.{◌≡◌, drop}
use Rattle.ic3_engine.specs.Putting.{put_all}
use Rattle.ic3_engine.proofs.putting.put_list.Given as goal

abbrev pub invariant-loop-clause : goal.invariant-loop-clause
invariant-loop-clause l = record {
  top : l.frames.top ≡ l.fn.frames.top;
  kept : put_all l.fn.frames.top (drop l.clause-index l.clauses) l.frames.kept ≡ put_all l.fn.frames.top l.clauses l.fn.frames.kept;
}
