use Rattle.ja_text.proofs.LineLemmas.{line_none}
use Rattle.aiger_lines.proofs.TailLemmas.{passes_more, one_first}
use Rattle.aiger_lines.proofs.tail.bad_line.Goals as goal

pub is_passed_over-requires : goal.is_passed_over-requires
is_passed_over-requires c = line_none c.loop-rest.rest.now c.in_default.ensures.read

pub is_passed_over-requires-in-loop-rest : goal.is_passed_over-requires-in-loop-rest
is_passed_over-requires-in-loop-rest c =
    one_first c.loop-rest.rest.now c.in-Some.first.now c.in-Some.after.now c.in-Some.ensures.read

pub loop-rest-preserved : goal.loop-rest-preserved
loop-rest-preserved c =
    passes_more c.args.header.now c.args.bytes.now c.loop-rest.rest.now c.in-Some.first.now c.in-Some.after.now
    c.loop-rest.invariant c.in-Some.ensures.read (c.is_passed_over-in-loop-rest.ensures.0 c.if-not-is_passed_over.false)
