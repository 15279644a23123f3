use Rattle.std.proofs.lemmas.Result.{err_from_is_err_and}
use Rattle.expect_file.proofs.LoopLemmas.{lines_more, lines_fail, lines_end, room}
use Rattle.expect_file.proofs.read.take_lines.Goals as goal

pub returns-in_err-take : goal.returns-in_err-take
returns-in_err-take c =
    let p = err_from_is_err_and c.from_residual.result c.from_residual.ensures.1 in
    let so_far = rw c.in-Some.is at c.loop-behind.invariant.read in
    rw (p.1, p.2) (lines_fail c.in_err-take.field-0.0 c.loop-behind.number c.loop-behind.found c.cut.result.0.now _ _ _
    c.cut.ensures.lines (c.in_err-take.ensures).read so_far)

pub loop-behind-preserved : goal.loop-behind-preserved
loop-behind-preserved c =
    let so_far = rw c.in-Some.is at c.loop-behind.invariant.read in
    let fits = rw c.in-Some.is at c.loop-behind.invariant.room in
    record {
      read = lines_more c.loop-behind.number c.loop-behind.found c.take.new.self c.cut.result.0.now _ _ _ c.cut.ensures.lines
          (c.in_ok-take.ensures).read so_far;
      sized = (c.in_ok-take.ensures).sized;
      room = room c.cut.result.1 c.loop-behind.number _ c.cut.ensures.shorter fits;
    }

pub returns : goal.returns
returns c =
    let so_far = rw c.in_default.is at c.loop-behind.invariant.read in
    lines_end c.loop-behind.number c.loop-behind.found _ so_far
