use Rattle.std.proofs.Common.{◌≡◌, drop}
use Rattle.ja_base.specs.Clauses.{has_literal}
use Rattle.refute_check.proofs.covers.stands_somewhere.Given as goal

abbrev pub invariant-loop-other : goal.invariant-loop-other
invariant-loop-other l = has_literal l.lits l.fn.lit ≡ has_literal (drop l.other-index l.lits) l.fn.lit
