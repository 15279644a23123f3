use Rattle.std.proofs.Common.{length, ap, arith}
use Rattle.std.proofs.lemmas.List.Folds.{list_any_none}
use Rattle.ja_base.specs.Valuation.{next_state}
use Rattle.ja_base.specs.Invariants.{latch_value}
use Rattle.aig_model.specs.Netlist.{circuit}
use Rattle.ic3_query.proofs.seen.is_false_later.Goals as goal

pub returns : goal.returns
returns c =
    list_any_none (latch_value (circuit c.args.coded.now.design).latches
    (next_state (circuit c.args.coded.now.design) c.args.vals.now)) c.args.clause.now (λ k d within. c.loop-lit.invariant k d
    (omega (arith, within, ap length c.lits-lit-items.ensures.value, c.loop-lit-test.false)))
