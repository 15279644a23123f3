use Rattle.std.proofs.Common.{sym, ◌∙◌}
use Rattle.ja_base.specs.Clauses.{IsBelow}
use Rattle.check_log.proofs.BelowLemmas.{are_below}
use Rattle.check_log.proofs.log.add_all.Goals as goal

pub add-requires : goal.add-requires
add-requires c =
    let below : IsBelow 1048576 c.line-item.result.clause =
    are_below 1048576 c.line-item.result.clause (rw c.lits.ensures.value at (sym c.is_below.ensures ∙ c.if-not-is_below.false)) in
    let within : IsBelow c.loop-line.checker.vars c.line-item.result.clause = rw c.loop-line.invariant below in
    within
