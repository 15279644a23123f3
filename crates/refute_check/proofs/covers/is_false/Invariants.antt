use Rattle.std.proofs.Common.{◌≡◌, drop}
use Rattle.refute_check.specs.Refuted.{is_false_under}
use Rattle.refute_check.proofs.covers.is_false.Given as goal

abbrev pub invariant-loop-lit : goal.invariant-loop-lit
invariant-loop-lit l = is_false_under l.under l.lits ≡ is_false_under l.under (drop l.lit-index l.lits)
