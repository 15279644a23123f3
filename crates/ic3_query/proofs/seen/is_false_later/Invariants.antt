use Rattle.std.proofs.Common.{◌≡◌, ◌<◌, ℕ, false, slice_index_or}
use Rattle.ja_base.specs.Valuation.{next_state}
use Rattle.ja_base.specs.Invariants.{latch_value}
use Rattle.aig_model.specs.Netlist.{circuit}
use Rattle.ic3_query.proofs.seen.is_false_later.Given as goal

abbrev pub invariant-loop-lit : goal.invariant-loop-lit
invariant-loop-lit l = (k d : ℕ) → k < l.lit-index
    → latch_value (circuit l.coded.design).latches (next_state (circuit l.coded.design) l.vals)
    (slice_index_or l.clause k d) ≡ false
