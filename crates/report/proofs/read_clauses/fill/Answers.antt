use Rattle.std.specs.Prelude.{codes}
use Rattle.report.proofs.NumbersLemmas.{grows_more}
use Rattle.report.proofs.read_clauses.fill.Goals as goal

pub loop-number-preserved : goal.loop-number-preserved
loop-number-preserved c =
    grows_more (codes " ") c.args.bytes.now c.args.lits.now.items c.loop-number.lits.items c.loop-number.rest.now _
    c.in-Some.number c.in-Some.after.now
    c.loop-number.invariant c.in-Some.ensures.read c.in_ok-push.ensures.items
