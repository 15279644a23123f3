use Rattle.std.proofs.Common.{◌≡◌, drop}
use Rattle.std.specs.List.{list_any}
use Rattle.ja_base.specs.Literals.{negated}
use Rattle.ja_base.specs.Clauses.{has_literal}
use Rattle.refute_check.specs.Refuted.{has_both_signs}
use Rattle.refute_check.proofs.covers.both_signs.Given as goal

abbrev pub invariant-loop-lit : goal.invariant-loop-lit
invariant-loop-lit l = has_both_signs l.under ≡ list_any (λ k. has_literal l.under (negated k)) (drop l.lit-index l.under)
