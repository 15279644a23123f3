use Rattle.std.proofs.Common.{◌≡◌, drop}
use Rattle.std.specs.List.{list_any}
use Rattle.ja_base.specs.Literals.{value}
use Rattle.ja_base.proofs.clause.Clause.holds_in.Given as goal

abbrev pub invariant-loop-lit : goal.invariant-loop-lit
invariant-loop-lit l = list_any (value l.vals) l.lit-items ≡ list_any (value l.vals) (drop l.lit-index l.lit-items)
