use Rattle.std.proofs.Common.{arith}
use Rattle.ja_outside.proofs.Pieces.{TakesOver-more, TakesWithin-more}
use Rattle.ja_outside.proofs.whole.read_whole.Goals as goal

pub returns-then-taken-limit-clause-exact : goal.returns-then-taken-limit-clause-exact
returns-then-taken-limit-clause-exact g c =
    let all = c.loop-bytes.bytes.ok.0 in
    TakesOver-more _ _ c.loop-bytes.bytes.items c.read.new.buf c.in-Ok-read.taken _ _ _ c.loop-bytes.invariant.taken
    c.in-Ok-read.ensures.ok c.in-Ok-read.ensures.fits (omega arith)

pub returns-in_default-extend_from_slice-clause-exact : goal.returns-in_default-extend_from_slice-clause-exact
returns-in_default-extend_from_slice-clause-exact g c = λ _.
    let all = c.loop-bytes.bytes.ok.0 in
    TakesWithin-more _ _ c.loop-bytes.bytes.items c.read.new.buf c.in-Ok-read.taken _ _ _ c.loop-bytes.invariant.taken
    c.in-Ok-read.ensures.ok c.in-Ok-read.ensures.fits (omega arith)
